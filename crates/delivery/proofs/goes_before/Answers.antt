-- `goes_before` counts the controllers that have a smaller number for the first.
use Rattle.std.proofs.Common.{rules, tests, of_calls, ◌≡◌, refl, ◌∙◌, ℕ, List, length, min, ltb, take, get_or, arith}
use Rattle.std.specs.Int.{from_bool}
use Rattle.std.specs.List.{zip, sum_by}
use Rattle.std.proofs.lemmas.Iterator.{YieldsList-from_slice, YieldsList-from_take, YieldsList-from_zip, YieldsList-from_map}
use Rattle.std.proofs.lemmas.Iterator.Consumers.{YieldsList-at, sum_by_from_yields_List, fits_by_from_yields_list}
use Rattle.lists.specs.Below.{count}
use Rattle.lists.proofs.Below.{count_bound}
use Rattle.lists.proofs.Chains.{reads_list, reads_take, reads_zip, reads_flags}
use Rattle.model.specs.Delivery.{goes_before}
use Rattle.model.specs.Tables.{seats, forward_number}
use Rattle.model.specs.declared.ForwardNumber.{ForwardNumber}
use Rattle.delivery.proofs.goes_before.Goals as goal

abbrev smaller : ForwardNumber × ForwardNumber → ℕ
smaller marks = from_bool (ltb marks.0.0 marks.1.0)

counted : (n : ℕ) (p q : List ForwardNumber) → length p ≡ seats → length q ≡ seats
    → sum_by smaller (take n (zip p q)) ≡ count (min n seats) (λ f. ltb (get_or p f (forward_number 0)).0 (get_or q f (forward_number 0)).0)
counted n p q k l =
    let none = forward_number 0 in
    reads_flags smaller _ (reads_take n (reads_zip (reads_list p none seats k) (reads_list q none seats l) refl) refl) (λ f h. refl)

pub sum-requires : goal.sum-requires
sum-requires c =
    let first = c.args.p.now.marks in
    let second = c.args.q.now.marks in
    record {
      can = search of_calls;
      finite = search of_calls;
      fits = fits_by_from_yields_list smaller (take c.args.n (zip first second)) c.map.result _
          (YieldsList-from_map _ smaller
          (YieldsList-at c.map.ensures.source (YieldsList-from_take c.args.n
          (YieldsList-at c.take.ensures.source (YieldsList-from_zip (YieldsList-from_slice first cc) (YieldsList-from_slice second cc))) (cc)))
          c.map.ensures.closure (λ x b q k. search (rules, tests)))
          (omega (arith, counted c.args.n first second (search rules) (search rules), count_bound (min c.args.n seats) (λ f. ltb (get_or first f (forward_number 0)).0 (get_or second f (forward_number 0)).0)));
    }

pub returns : goal.returns
unfolding goes_before
returns c =
    let first = c.args.p.now.marks in
    let second = c.args.q.now.marks in
    sum_by_from_yields_List smaller (take c.args.n (zip first second)) c.map.result c.sum.result c.sum.ensures.ran
    (YieldsList-from_map _ smaller
    (YieldsList-at c.map.ensures.source (YieldsList-from_take c.args.n
    (YieldsList-at c.take.ensures.source (YieldsList-from_zip (YieldsList-from_slice first cc) (YieldsList-from_slice second cc))) (cc)))
    c.map.ensures.closure (λ x b q k. search (rules, tests)))
    ∙ counted c.args.n first second (search rules) (search rules)

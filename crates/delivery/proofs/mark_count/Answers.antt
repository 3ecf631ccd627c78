-- `mark_count` counts the marks that are there.
use Rattle.std.proofs.Common.{rules, tests, of_calls, ◌≡◌, refl, ◌∙◌, ℕ, List, length, min, ltb, take, get_or, arith}
use Rattle.std.specs.Int.{from_bool}
use Rattle.std.specs.List.{sum_by}
use Rattle.std.proofs.lemmas.Iterator.{YieldsList-from_slice, YieldsList-from_take, YieldsList-from_map}
use Rattle.std.proofs.lemmas.Iterator.Consumers.{YieldsList-at, sum_by_from_yields_List, fits_by_from_yields_list}
use Rattle.lists.specs.Below.{count}
use Rattle.lists.proofs.Below.{count_bound}
use Rattle.lists.proofs.Chains.{reads_list, reads_take, reads_flags}
use Rattle.model.specs.Delivery.{mark_count}
use Rattle.model.specs.Tables.{seats, absent, forward_number}
use Rattle.model.specs.declared.ForwardNumber.{ForwardNumber}
use Rattle.delivery.proofs.mark_count.Goals as goal

abbrev there : ForwardNumber → ℕ
there mark = from_bool (ltb mark.0 absent)

counted : (n : ℕ) (p : List ForwardNumber) → length p ≡ seats
    → sum_by there (take n p) ≡ count (min n seats) (λ f. ltb (get_or p f (forward_number 0)).0 absent)
counted n p k = reads_flags there _ (reads_take n (reads_list p (forward_number 0) seats k) refl) (λ f h. refl)

pub sum-requires : goal.sum-requires
sum-requires c =
    let marks = c.args.p.now.marks in
    record {
      can = search of_calls;
      finite = search of_calls;
      fits = fits_by_from_yields_list there (take c.args.n marks) c.map.result _
          (YieldsList-from_map _ there
          (YieldsList-at c.map.ensures.source (YieldsList-from_take c.args.n (YieldsList-at c.take.ensures.source (YieldsList-from_slice marks cc)) (cc)))
          c.map.ensures.closure (λ x b q k. search (rules, tests)))
          (omega (arith, counted c.args.n marks (search rules), count_bound (min c.args.n seats) (λ f. ltb (get_or marks f (forward_number 0)).0 absent)));
    }

pub returns : goal.returns
unfolding mark_count
returns c =
    let marks = c.args.p.now.marks in
    sum_by_from_yields_List there (take c.args.n marks) c.map.result c.sum.result c.sum.ensures.ran
    (YieldsList-from_map _ there
    (YieldsList-at c.map.ensures.source (YieldsList-from_take c.args.n (YieldsList-at c.take.ensures.source (YieldsList-from_slice marks cc)) (cc)))
    c.map.ensures.closure (λ x b q k. search (rules, tests)))
    ∙ counted c.args.n marks (search rules)

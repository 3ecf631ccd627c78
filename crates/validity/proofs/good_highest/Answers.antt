-- `good_highest` compares the first n highest numbers with the greatest ones of their senders.
use Rattle.std.proofs.Common.{ℕ, Bool, refl, take, eqb, rules, tests, arith}
use Rattle.std.proofs.lemmas.Iterator.{YieldsList-from_slice, YieldsList-from_zip}
use Rattle.std.proofs.lemmas.Iterator.Consumers.{YieldsList-at}
use Rattle.validity.proofs.Folds.{folded}
use Rattle.lists.proofs.Chains.{reads_list, reads_zip, reads_take}
use Rattle.model.specs.declared.MessageNumber.{MessageNumber}
use Rattle.model.specs.Tables.{none, seats}
use Rattle.validity.proofs.good_highest.Goals as goal

abbrev equal : MessageNumber × ℕ → Bool
equal p = eqb p.0.0 p.1

pub returns : goal.returns
returns c =
    let n = c.args.run.n in
    let H = c.args.highest.now in
    let G = c.args.greatest.now in
    folded equal _ _ _ c.fold.ensures.ran
    (YieldsList-from_zip (YieldsList-at c.zip.ensures.first (YieldsList-from_slice (take n H) cc)) (YieldsList-from_slice G cc))
    (λ a x b q k. search (rules, tests))
    (reads_zip (reads_take n {j = n} (reads_list H none seats (omega arith)) (omega (arith, c.args.run.few))) (reads_list G 0 seats (omega arith)) (omega (arith, c.args.run.few)))
    (λ k h. refl)

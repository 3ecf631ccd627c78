-- `good_slots` tests what is pending, applied and logged, slot by slot.
use Rattle.std.proofs.Common.{ℕ, Bool, false, refl, ltb, rules, tests, arith}
use Rattle.std.proofs.lemmas.Iterator.{YieldsList-from_slice, YieldsList-from_zip}
use Rattle.std.proofs.lemmas.Iterator.Consumers.{YieldsList-at, YieldsList-from_enumerate}
use Rattle.validity.proofs.Folds.{folded}
use Rattle.lists.proofs.Chains.{reads_list, reads_zip, reads_enumerated}
use Rattle.model.specs.Tables.{yes?, capacity}
use Rattle.validity.specs.Flags.{good_slot}
use Rattle.validity.proofs.good_slots.Goals as goal

abbrev good : ℕ → Bool → ℕ × ((Bool × ℕ) × Bool) → Bool
good k running p = good_slot (ltb p.0 k) running p.1.0.0 (yes? p.1.0.1) p.1.1

pub returns : goal.returns
returns c =
    let H = c.args.held.now in
    let A = c.args.applied.now in
    let L = c.args.logged.now in
    let test = good c.args.count c.args.running in
    folded test _ _ _ c.fold.ensures.ran
    (YieldsList-from_enumerate (YieldsList-at c.enumerate.ensures.source (YieldsList-from_zip (YieldsList-at c.zip-2.ensures.first (YieldsList-from_zip (YieldsList-at c.zip.ensures.first (YieldsList-from_slice H cc)) (YieldsList-from_slice A cc))) (YieldsList-from_slice L cc))) cc)
    (λ a x b q k. search (rules, tests))
    (reads_enumerated (reads_zip {j = capacity} (reads_zip {j = capacity} (reads_list H false capacity (omega arith)) (reads_list A 0 capacity (omega arith)) (omega arith)) (reads_list L false capacity (omega arith)) (omega arith)))
    (λ k h. refl)

-- `good_entry` tests the marks of a message in the buffer, those of the n controllers of the run.
use mathlib.Core.Bool.{true}
use Rattle.std.proofs.Common.{Bool, ◌≡◌, true, refl, sym, ◌∙◌, rules, tests, arith}
use Rattle.std.proofs.lemmas.Iterator.{YieldsList-from_slice, YieldsList-from_take}
use Rattle.std.proofs.lemmas.Iterator.Consumers.{YieldsList-at}
use Rattle.validity.proofs.Folds.{folded}
use Rattle.lists.proofs.Chains.{reads_list, reads_take}
use Rattle.model.specs.declared.ForwardNumber.{ForwardNumber}
use Rattle.model.specs.Tables.{yes?, seats}
use Rattle.model.specs.WellFormed.{good_mark}
use Rattle.validity.specs.Flags.{good_entry}
use Rattle.validity.proofs.good_entry.Goals as goal

abbrev good : ForwardNumber → Bool
good m = good_mark m.0

pub returns : goal.returns
unfolding good_entry
returns c =
    let n = c.args.run.n in
    let marks = c.args.p.now.marks in
    let held : yes? c.args.p.now.held ≡ true = sym c.is_held.ensures ∙ c.if-not-is_held.false in
    rw held (folded good _ _ _ c.fold.ensures.ran
    (YieldsList-from_take n (YieldsList-at c.take.ensures.source (YieldsList-from_slice marks cc)) cc)
    (λ a x b q k. search (rules, tests))
    (reads_take n (reads_list marks (record { 0 = 0 }) seats (omega arith)) (omega (arith, c.args.run.few)))
    (λ k h. refl))

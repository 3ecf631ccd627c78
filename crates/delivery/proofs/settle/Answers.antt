-- `settle` ends in the set applied: the loops of line 16 are followed comparison by comparison.
use Rattle.std.proofs.Common.{◌≡◌, leb, ap, ap₂, sym, ◌∙◌, arith}
use borrow.Author.Tests.{lt-leb}
use Rattle.model.specs.Tables.{entry}
use Rattle.model.specs.Delivery.{goes_before}
use Rattle.model.specs.Largest.{precedes}
use Rattle.delivery.specs.Apply.{front, back}
use Rattle.delivery.proofs.LargestByRemoval.{member_below, other_below, removing_remove, removing_end}
use Rattle.delivery.proofs.settle.Goals as goal

pub bounds-pending-slots : goal.bounds-pending-slots
bounds-pending-slots c = other_below _ _ _ _ _ _ _ c.again.invariant _ c.again-test.true

pub bounds-pending-s : goal.bounds-pending-s
bounds-pending-s c = member_below _ _ _ _ _ _ _ c.loop-place.invariant.4 _ c.loop-place-test.true

-- the count against the majority says whether the member goes before the one taken
pub again-preserved-then-goes_before-m : goal.again-preserved-then-goes_before-m
again-preserved-then-goes_before-m c =
    let i = c.loop-place.invariant in
    let s = c.loop-place.slots in
    let member = entry c.args.pending.now (front s c.loop-place.place) in
    let compared : leb c.majority-m.result c.goes_before.result
    ≡ precedes c.args.n c.args.pending.now (front s c.loop-place.place) (back s c.again.taken) =
    ap₂ leb c.majority-m.ensures (c.goes_before.ensures ∙ ap (goes_before c.args.n member) i.3) in
    removing_remove _ _ _ _ _ _ _ i.4 (omega arith) c.loop-place-test.true (sym compared ∙ lt-leb _ _ c.if-goes_before-m.true)

pub returns : goal.returns
returns c = removing_end _ _ _ _ _ _ _ c.again.invariant c.again-test.false

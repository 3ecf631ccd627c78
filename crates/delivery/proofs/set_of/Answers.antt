-- `set_of` makes a member of each slot that the bytes name.
use Rattle.std.proofs.Common.{◌≡◌, length, arith}
use Rattle.delivery.proofs.Named.{naming_start, naming_turn, naming_end}
use Rattle.delivery.proofs.set_of.Goals as goal

pub loop-slot-init : goal.loop-slot-init
loop-slot-init c = naming_start _

pub loop-slot-preserved : goal.loop-slot-preserved
loop-slot-preserved c = naming_turn _ _ _ (c.requires.below c.loop-slot.slot-index (omega arith)) c.loop-slot.invariant

pub returns : goal.returns
returns c = let e : c.loop-slot.slot-index ≡ length c.args.slots.now = omega arith in naming_end _ _ _ (rw e at c.loop-slot.invariant)

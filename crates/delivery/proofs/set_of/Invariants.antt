-- `set_of` makes a member of each slot that the bytes name: the slots of the bytes before this one are members so far.
use Rattle.delivery.proofs.Named.{Naming}
use Rattle.delivery.proofs.set_of.Given as goal

abbrev pub invariant-loop-slot : goal.invariant-loop-slot
invariant-loop-slot l = Naming l.slots l.slot-index l.members

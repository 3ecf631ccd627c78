-- `divide` gives each slot in the buffer to its end of the 64 bytes: the slots below s are divided so far.
use Rattle.delivery.specs.Apply.{Divided}
use Rattle.delivery.proofs.divide.Given as goal

abbrev pub invariant-loop-s : goal.invariant-loop-s
invariant-loop-s l = Divided l.n l.pending l.s l.slots l.candidates l.rest

-- `classes` adds up both parts of the amounts of each class. The loop's invariant: the sums so far, and how large they are.
use Rattle.std.proofs.Common.{length}
use Rattle.totals.proofs.SumsSoFar.{EachClassed}
use Rattle.totals.proofs.classes.Given as goal

abbrev pub invariant-loop-m : goal.invariant-loop-m
invariant-loop-m l = EachClassed l.messages.slots.now l.applied (length l.yielded) l.classes

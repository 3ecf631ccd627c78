-- `sums` adds up both parts of the amounts of the messages that were applied. The loop's invariant: the sums so far, and how large they are.
use Rattle.std.proofs.Common.{length}
use Rattle.totals.proofs.SumsSoFar.{Summed}
use Rattle.totals.proofs.sums.Given as goal

abbrev pub invariant-loop-m : goal.invariant-loop-m
invariant-loop-m l = Summed l.messages.slots.now l.applied (length l.yielded) l.sums

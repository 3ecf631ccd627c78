-- `registers` has of each register the write with the greatest stamp. The loop's invariant: the registers so far.
use Rattle.std.proofs.Common.{length}
use Rattle.totals.proofs.RegistersSoFar.{EachHeld}
use Rattle.totals.proofs.registers.Given as goal

abbrev pub invariant-loop-m : goal.invariant-loop-m
invariant-loop-m l = EachHeld l.messages.slots.now l.applied (length l.yielded) l.registers

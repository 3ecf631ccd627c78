-- `read_writes` reads the sender of each write, and tests them where there is one: the senders in the slots so far, and where these end.
use Rattle.std.proofs.Common.{◌≡◌, length}
use Rattle.model.specs.Tables.{capacity}
use Rattle.validity.specs.Reads.{Wrote}
use Rattle.validity.proofs.read_writes.Given as goal

abbrev pub invariant-loop-s : goal.invariant-loop-s
invariant-loop-s l = (length l.senders ≡ capacity) × Wrote l.s l.run.sent.now l.end l.senders

-- `run_records` carries out the records of a file. The loop's invariant is `Running`, and its measure the bytes left.
use Rattle.std.proofs.Common.{length}
use Rattle.files.proofs.RecordLoop.{Running}
use Rattle.files.proofs.run_records.Given as goal

abbrev pub invariant-loop-left : goal.invariant-loop-left
invariant-loop-left l = Running l.fn.bytes l.fn.listing l.fn.scratch l.listing l.scratch l.left l.cursor l.table

abbrev pub decreases-loop-left : goal.decreases-loop-left
decreases-loop-left l = length l.left

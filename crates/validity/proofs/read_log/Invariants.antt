-- `read_log` reads a log once: the entries so far were read.
use Rattle.std.proofs.Common.{length}
use Rattle.validity.proofs.LogEntries.{EntriesRead}
use Rattle.validity.proofs.read_log.Given as goal

abbrev pub invariant-loop-entry : goal.invariant-loop-entry
invariant-loop-entry l = EntriesRead (length l.run.sent.now) l.c l.entry-index l.logged

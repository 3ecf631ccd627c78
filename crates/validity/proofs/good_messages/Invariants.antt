-- `good_messages` tests the messages of a run, each once: the messages so far were read.
use Rattle.std.proofs.Common.{length}
use Rattle.validity.proofs.DistinctNames.{MessagesRead}
use Rattle.validity.proofs.good_messages.Given as goal

abbrev pub invariant-loop-m : goal.invariant-loop-m
invariant-loop-m l = MessagesRead l.version l.n (length l.sent) l.sent l.m-index l.seen

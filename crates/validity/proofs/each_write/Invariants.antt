-- `each_write` tests the writes of a run, each once: the stamps of the messages so far were read.
use Rattle.validity.proofs.WriteStamps.{StampsRead}
use Rattle.validity.proofs.each_write.Given as goal

abbrev pub invariant-loop-m : goal.invariant-loop-m
invariant-loop-m l = StampsRead l.run.sent.now l.m-index l.stamps

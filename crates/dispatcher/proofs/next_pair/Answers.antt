-- Each turn takes the next pair, whose controllers have seats; where it does not wait, the search goes on.
use Rattle.std.proofs.Common.{sym, ◌∙◌}
use Rattle.dispatcher.proofs.Search.{turn_seated, onward}
use Rattle.dispatcher.proofs.next_pair.Goals as goal

pub waits-requires : goal.waits-requires
waits-requires c = turn_seated _ _ _ _ _ _ c.loop.invariant c.loop-test.true c.following-p.ensures c.requires.0

pub loop-preserved : goal.loop-preserved
loop-preserved c = onward _ _ _ _ _ _ c.loop.invariant c.loop-test.true c.following-p.ensures (sym c.waits.ensures ∙ c.if-waits.false)

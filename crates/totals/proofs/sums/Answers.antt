-- `sums` adds up both parts of the amounts of the messages that were applied; past the 64th slot none is.
use Rattle.std.proofs.Common.{rules}
use Rattle.model.proofs.Passes.{turn, end}
use Rattle.totals.proofs.SumsSoFar.{summed_none, summed_room, summed_more, summed_on, summed_all}
use Rattle.totals.proofs.sums.Goals as goal

pub loop-m-init : goal.loop-m-init
loop-m-init c = rw c.zero-sums.ensures (summed_none _ _)

pub add-requires : goal.add-requires
add-requires c =
    summed_room _ _ _ _ _ _ _
    (turn c.args.messages.count _ _ c.sent.ensures.whole c.told-applied _ _ _ c.next.new.self _ (search rules) (search rules) c.loop-m.yielded_by c.next.ensures.steps _ c.in-Some.is)
    c.loop-m.invariant

pub loop-m-preserved-then-flag-ne0 : goal.loop-m-preserved-then-flag-ne0
loop-m-preserved-then-flag-ne0 c =
    summed_more _ _ _ _ _ _ _ _
    (turn c.args.messages.count _ _ c.sent.ensures.whole c.told-applied _ _ _ c.next.new.self _ (search rules) (search rules) c.loop-m.yielded_by c.next.ensures.steps _ c.in-Some.is)
    c.if-flag-ne0.true c.loop-m.invariant c.add.ensures.added c.add.ensures.small

pub loop-m-preserved : goal.loop-m-preserved
loop-m-preserved c =
    summed_on _ _ _ _ _ _ _
    (turn c.args.messages.count _ _ c.sent.ensures.whole c.told-applied _ _ _ c.next.new.self _ (search rules) (search rules) c.loop-m.yielded_by c.next.ensures.steps _ c.in-Some.is)
    c.if-flag-ne0.false c.loop-m.invariant

pub returns : goal.returns
returns c =
    summed_all _ _ c.told-applied _ _ _
    (end c.args.messages.count _ _ c.sent.ensures.whole c.told-applied _ _ _ c.next.new.self _ (search rules) (search rules) c.loop-m.yielded_by c.next.ensures.steps c.in-None.is)
    c.loop-m.invariant

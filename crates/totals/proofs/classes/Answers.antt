-- `classes` adds up both parts of the amounts of each class; a class above the last has no sums, and past the 64th slot none is applied.
use Rattle.std.proofs.Common.{rules, arith, length, refl}
use Rattle.model.proofs.Passes.{Turn, turn, end}
use Rattle.totals.proofs.SumsSoFar.{each_none, each_past, each_more, each_on, each_all}
use Rattle.totals.proofs.classes.Goals as goal
use Rattle.totals.proofs.classes.Goals.{else-flag-ne0-via-then-flag-ne0+else-class-lt-CLASSES, else-flag-ne0-via-else-flag-ne0}

pub loop-m-init : goal.loop-m-init
loop-m-init c = rw c.zero-classes.ensures (each_none _ _)

pub loop-m-preserved-then-class-lt-CLASSES : goal.loop-m-preserved-then-class-lt-CLASSES
loop-m-preserved-then-class-lt-CLASSES c =
    each_more _ _ _ _ _ _ c.from-class.result c.loop-m.classes _ c.add.new.sums
    (turn c.args.messages.count _ _ c.sent.ensures.whole c.told-applied _ _ _ c.next.new.self _ (search rules) (search rules) c.loop-m.yielded_by c.next.ensures.steps _ c.in-Some.is)
    c.if-flag-ne0.true c.loop-m.invariant c.from-class.ensures (omega (arith, c.loop-m.invariant.long)) c.add.ensures.added c.add.ensures.small refl

pub loop-m-preserved : goal.loop-m-preserved
loop-m-preserved c =
    let t : Turn c.args.messages.slots.now c.args.applied.now (length c.loop-m.yielded) _ c.in-Some.m.now c.in-Some.flag.now =
    turn c.args.messages.count _ _ c.sent.ensures.whole c.told-applied _ _ _ c.next.new.self _ (search rules) (search rules) c.loop-m.yielded_by c.next.ensures.steps _ c.in-Some.is in
    elim c.else-flag-ne0.branch [
      | else-flag-ne0-via-then-flag-ne0+else-class-lt-CLASSES w ↦ each_past _ _ _ _ _ _ c.from-class.result _ t w.if-flag-ne0.true c.loop-m.invariant c.from-class.ensures (omega (arith, c.loop-m.invariant.long, w.if-class-lt-CLASSES.false))
      | else-flag-ne0-via-else-flag-ne0 w ↦ each_on _ _ _ _ _ _ _ t w.if-flag-ne0.false c.loop-m.invariant
    ]

pub returns : goal.returns
returns c =
    each_all _ _ c.told-applied _ _ _
    (end c.args.messages.count _ _ c.sent.ensures.whole c.told-applied _ _ _ c.next.new.self _ (search rules) (search rules) c.loop-m.yielded_by c.next.ensures.steps c.in-None.is)
    c.loop-m.invariant

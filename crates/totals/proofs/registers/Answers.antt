-- `registers` has of each register the write with the greatest stamp; past the 64th slot none is applied.
use Rattle.std.proofs.Common.{rules, length, refl}
use Rattle.model.proofs.Passes.{Turn, turn, end}
use Rattle.totals.proofs.RegistersSoFar.{held_none, held_on, held_past, held_more, held_all}
use Rattle.totals.proofs.registers.Goals as goal
use Rattle.totals.proofs.registers.Goals.{else-flag-ne0-via-then-flag-ne0+in-None-1, else-flag-ne0-via-else-flag-ne0}

pub loop-m-init : goal.loop-m-init
loop-m-init c = rw c.zero-registers.ensures (held_none _ _)

pub loop-m-preserved-in-loop-m : goal.loop-m-preserved-in-loop-m
loop-m-preserved-in-loop-m c =
    held_more _ _ _ _ _ _ _ c.loop-m.registers _ c.wins.result
    (turn c.args.messages.count _ _ c.sent.ensures.whole c.told-applied _ _ _ c.next.new.self _ (search rules) (search rules) c.loop-m.yielded_by c.next.ensures.steps _ c.in-Some.is)
    c.if-flag-ne0.true c.loop-m.invariant c.in-Some-register_index.ensures.within c.in-Some-register_index.ensures.written (rw (c.wins.ensures, c.written.ensures) refl) refl

pub loop-m-preserved : goal.loop-m-preserved
loop-m-preserved c =
    let t : Turn c.args.messages.slots.now c.args.applied.now (length c.loop-m.yielded) _ c.in-Some.m.now c.in-Some.flag.now =
    turn c.args.messages.count _ _ c.sent.ensures.whole c.told-applied _ _ _ c.next.new.self _ (search rules) (search rules) c.loop-m.yielded_by c.next.ensures.steps _ c.in-Some.is in
    elim c.else-flag-ne0.branch [
      | else-flag-ne0-via-then-flag-ne0+in-None-1 w ↦ held_past _ _ _ _ _ _ _ t (search rules) c.loop-m.invariant
      | else-flag-ne0-via-else-flag-ne0 w ↦ held_on _ _ _ _ _ _ _ t w.if-flag-ne0.false c.loop-m.invariant
    ]

pub returns : goal.returns
returns c =
    held_all _ _ c.told-applied _ _ _
    (end c.args.messages.count _ _ c.sent.ensures.whole c.told-applied _ _ _ c.next.new.self _ (search rules) (search rules) c.loop-m.yielded_by c.next.ensures.steps c.in-None.is)
    c.loop-m.invariant

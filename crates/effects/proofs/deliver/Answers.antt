-- `deliver` applies the whole set.
use Rattle.std.proofs.Common.{◌≡◌, arith, ap, ◌∙◌, length}
use Rattle.std.proofs.lemmas.List.{length-take}
use Rattle.model.specs.Handed.{all_of}
use Rattle.model.specs.declared.Message.{Message}
use Rattle.effects.proofs.SetApplied.{sent_before, sent_at, partly_none, partly_skip, partly_more, partly_end}
use Rattle.effects.proofs.deliver.Goals.{then-members-slot, else-members-slot}
use Rattle.effects.proofs.deliver.Goals as goal

pub loop-slot-init : goal.loop-slot-init
loop-slot-init c z w = partly_none _ _ _ z.highest

pub loop-slot-preserved : goal.loop-slot-preserved
loop-slot-preserved c z w =
    elim c.if-members-slot.branch [
      | then-members-slot b ↦
          let e = c.sent-m-items.ensures.sent in
          let s = w c.loop-slot.slot (sent_before (all_of c.args.messages) _ _ e c.loop-slot-test.true) in
          partly_more _ _ _ _ b.if-members-slot.true s.low s.high _ _ (c.loop-slot.invariant z w)
          (b.c-is ∙ (rw (sent_at (all_of c.args.messages) _ _ e c.loop-slot-test.true) at b.apply.ensures) s)
      | else-members-slot b ↦ b.c-is ∙ partly_skip _ _ _ _ b.if-members-slot.false _ (c.loop-slot.invariant z w)
    ]

pub returns : goal.returns
returns c z d =
    let all : length c.sent-m-items.result.now ≡ c.args.messages.count =
    omega (arith, ap length c.sent-m-items.ensures.sent, length-take {A = Message}, d.fits) in
    partly_end _ _ _ z.pending z.applied d.fits d.of_run _ _ (omega arith) (c.loop-slot.invariant z d.senders)

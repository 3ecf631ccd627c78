-- `carry_out` does what the event's kind says, and leaves the scratch bytes that it needed zero.
use Rattle.std.proofs.Common.{◌+◌, ap, ◌∙◌, refl, sym}
use Rattle.effects.proofs.StoredEffect.{sent_effect, stop_effect}
use Rattle.effects.proofs.carry_out.Goals as goal

pub returns-in-Send : goal.returns-in-Send
returns-in-Send c =
    let e = c.in-Send.is in
    record {
      effected = λ a h. rw e (record {
        effect = c.quiet.ensures.effect ∙ sent_effect _ _ _ _ _ (rw e at a) _ _ c.min-slot.ensures (ap (λ x. x + 1) c.min-place.ensures) _ c.buffer.ensures;
        clear = c.quiet.ensures.clear;
      });
    }

pub returns-in-Handover : goal.returns-in-Handover
returns-in-Handover c =
    let e = c.in-Handover.is in
    record { effected = λ a h. rw e (c.hand_over.ensures.effected c.args.t.now refl (sym c.sent.ensures) (rw e at a) h) }

pub returns-in-Stop : goal.returns-in-Stop
returns-in-Stop c =
    let e = c.in-Stop.is in
    let s = c.quiet-in-Stop.ensures in
    record { effected = λ a h. rw e (record { effect = s.effect ∙ stop_effect _ _ _ _ _ (rw e at a) _ c.stop.ensures; clear = s.clear }) }

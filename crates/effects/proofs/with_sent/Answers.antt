-- `with_sent` puts a sent message after the others.
use Rattle.effects.proofs.StoredEffect.{sent_added}
use Rattle.effects.proofs.with_sent.Goals as goal

pub returns : goal.returns
returns c = record {
  added = λ t em q e. sent_added t _ _ q _ em _ c.min-slot.ensures _ _ (c.sent_message.ensures.sent t em q e);
}

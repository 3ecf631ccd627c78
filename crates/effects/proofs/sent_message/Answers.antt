-- `sent_message` numbers and dates a message by its sender.
use Rattle.effects.proofs.StoredEffect.{message-sent}
use Rattle.effects.proofs.sent_message.Goals as goal

pub returns : goal.returns
returns c = record {
  sent = λ t em q e. message-sent t _ _ _ q e _ em _ _ c.min.ensures c.date_of-date.ensures _ c.of-number.ensures _ c.of.ensures;
}

-- `event` refuses an event by the first no of its questions, or carries it out.
use Rattle.std.proofs.Common.{sym, ap, ◌∙◌}
use Rattle.records.specs.declared.Record.{Record}
use Rattle.effects.specs.declared.Effect.{Effect}
use Rattle.effects.specs.Effects.{effect_of}
use Rattle.effects.proofs.Seats.{allowed_hand}
use Rattle.events.proofs.QuestionOrder.{lent_passed, enough, allowed, reader_is}
use Rattle.events.proofs.CallOutcome.{step_acted, step_read, event-refused, event_stepped}
use Rattle.events.proofs.event.Goals as goal

pub returns-in-Err : goal.returns-in-Err
returns-in-Err c = event-refused _ _ _ _ c.in-Err.ensures.asked _ c.refused.ensures

pub returns-in-Act : goal.returns-in-Act
unfolding effect_of
returns-in-Act c =
    let z = lent_passed _ _ _ c.in-Ok.ensures.asked in
    let r = c.in-Ok.ensures.found in
    let e = sym (ap (λ (x : Record). x.command) r) ∙ c.in-Act.is in
    let a = allowed _ _ _ z.0 z.1 _ e in
    let f = c.carry_out-done.ensures.effected (allowed_hand _ _ a _ c.in-Act.is _ c.at_hand-p.ensures) (enough _ _ _ z.0 z.1) in
    event_stepped _ _ _ _ _ z.0
    (step_acted _ _ _ z.1 _ (ap (λ (x : Record). x.used) r) _ e _ _ f _ (c.store.ensures.stored (a, ap (λ (x : Effect). x.controller) f.effect)))

pub returns-in-Read : goal.returns-in-Read
returns-in-Read c =
    let z = lent_passed _ _ _ c.in-Ok.ensures.asked in
    let r = c.in-Ok.ensures.found in
    let e = sym (ap (λ (x : Record). x.command) r) ∙ c.in-Read.is in
    let x = reader_is _ _ _ z.0 z.1 _ e _ c.in-Read.is _ c.at_hand-p.ensures in
    event_stepped _ _ _ _ _ z.0 (step_read _ _ _ z.1 _ (ap (λ (x : Record). x.used) r) _ e _ x _ _ c.read_answer.ensures)

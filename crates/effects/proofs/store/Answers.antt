-- `stored` is the table after the event: its subject is stored, and a send's message.
use Rattle.std.proofs.Common.{◌-◌, refl, ap, ◌∙◌}
use Rattle.model.specs.Events.{subject}
use Rattle.model.specs.declared.Event.{Event}
use Rattle.effects.specs.Parties.{seat_of}
use Rattle.effects.proofs.Room.{subject_seated}
use Rattle.effects.proofs.Seats.{seat_is}
use Rattle.effects.proofs.StoredEffect.{stored_send, stored_else, other_kind}
use Rattle.effects.proofs.store.Goals as goal
use Rattle.effects.proofs.store.Goals.{in-Send, in_default}

pub returns : goal.returns
unfolding subject
returns c = record {
  stored = λ l.
      let index = seat_is _ _ (c.seat-i.ensures ∙ ap seat_of c.subject.ensures) (subject_seated _ _ l.0) in
      elim c.match-e.branch [
        | in-Send w ↦
            let e = w.in-Send.is in
            let m = rw e at l in
            rw (w.t-is, e) (stored_send _ _ _ _ _ m.1 (index ∙ ap (λ (x : Event). subject x - 1) e) _ ((rw w.sent.ensures at w.with_sent-sent.ensures).added _ refl m.0 m.1))
        | in_default w ↦ rw w.t-is (stored_else _ _ _ _ (other_kind _ w.in_default.not-Send) index l.1)
      ];
}

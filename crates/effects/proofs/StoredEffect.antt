-- What an event does to its subject is all that it does to the table, but for a send's message; and what the subject's sums are then.
-- Assumes nothing.
use mathlib.Core.Path.{◌≡◌, refl, ap, subst, ◌∙◌}
use mathlib.Core.Bool.{true}
use mathlib.Core.List.{[]}
use mathlib.Core.Logic.{◌⊎◌, inl, inr}
use Prim.Native.Nat.{ℕ, ◌+◌, ◌-◌, min, ◌<◌}
use native.Mathlib.Omega.{arith}
use lib.ListN.{length, set}
use lib.Seq.{get_or-set_same}
use denote.Enum.Declared.{tag_of}
use Rattle.lists.proofs.Clipped.{any_none}
use Rattle.model.specs.Tables.{Messages, seats, capacity, unheld, message_number, message_of, no_controller, controller_in, at, messages_of, with_controller, with_message, with_entry, with_mark, with_stop}
use Rattle.model.specs.Registers.{date_of}
use Rattle.model.specs.Events.{sent_message, sent, subject, after, with_sent, next, applied_by, sums, shown, panel_of, finishes}
use Rattle.model.specs.Fair.{fair_register}
use Rattle.model.specs.Facts.{Among}
use Rattle.model.specs.Sized.{Sized}
use Rattle.model.specs.declared.Payload.{Payload}
use Rattle.model.specs.declared.Message.{Message}
use Rattle.model.specs.declared.MessageNumber.{MessageNumber}
use Rattle.model.specs.declared.Controller.{Controller}
use Rattle.model.specs.declared.Table.{Table}
use Rattle.model.specs.declared.Event.{Event}
use Rattle.model.specs.declared.Event.TheVariants.{Send, Handover, Stop}
use Rattle.model.specs.contracts.Event as event
use Rattle.model.proofs.Lengths.{none_named}
use Rattle.effects.specs.declared.Effect.{Effect}
use Rattle.effects.specs.declared.Sent.{Sent}
use Rattle.effects.specs.Conditions.{Accepted, Dated}
use Rattle.effects.specs.Parties.{Allowed}
use Rattle.effects.specs.Effects.{no_set, effect_of, sent_of}
use Rattle.effects.proofs.Room.{sendable}
use Rattle.effects.proofs.WriteDates.{formed_dated}

-- THE SUBJECT

-- the sums of r as x, where it stands in the table
pub sums-within : (t : Table) (r : ℕ) (x : Controller) → r - 1 < length t.controllers → sums (messages_of t) x.applied ≡ (panel_of (with_controller t r x) r).sums
unfolding sums shown panel_of with_controller controller_in
sums-within t r x h = rw (get_or-set_same t.controllers (r - 1) x no_controller h) refl

pub sums-shown : (t : Table) (r : ℕ) (x : Controller) → Sized t → Among seats r → sums (messages_of t) x.applied ≡ (panel_of (with_controller t r x) r).sums
sums-shown t r x z h = sums-within t r x (omega (arith, z.controllers, h.low, h.high))

-- EVENTS THAT APPLY NOTHING

quiet_effect : (t : Table) (e : Event) → applied_by t e ≡ [] → (c : Controller) → c ≡ after t e
    → ◌≡◌ {A = Effect} (record { answer = no_set 0; controller = c }) (effect_of t e)
unfolding no_set effect_of finishes
quiet_effect t e n c ec = rw (ec, n, none_named t, ← any_none t.count _ (λ k h. refl)) refl

module _ (t : Table) (x y : Controller) where
  -- a send: the slot and the place, which are bounded, are those of the definition
  pub sent_effect : (c : ℕ) (p : Payload) → Allowed t (Send c p) x y → (s k : ℕ) → s ≡ min t.count (capacity - 1) → k ≡ min x.length (capacity - 1) + 1
      → (z : Controller) → (x.length < capacity → Among seats c → z ≡ with_mark (with_entry x s) s unheld.marks c k)
      → ◌≡◌ {A = Effect} (record { answer = no_set 0; controller = z }) (effect_of t (Send c p))
  unfolding subject after sent applied_by
  sent_effect c p a s k es ek z ez =
      let h = sendable t c p a.accepted in
      let room : x.length < capacity = omega (arith, ap (λ (v : Controller). v.length) a.subject_is, h.room) in
      let s-is : s ≡ t.count = omega (arith, es, h.slot) in
      let k-is : k ≡ x.length + 1 = omega (arith, ek, room) in
      quiet_effect t (Send c p) refl z (rw (s-is, k-is, a.subject_is) at (ez room h.sender))

  pub stop_effect : (c k : ℕ) → Allowed t (Stop c k) x y → (z : Controller) → z ≡ with_stop x k
      → ◌≡◌ {A = Effect} (record { answer = no_set 0; controller = z }) (effect_of t (Stop c k))
  unfolding subject after applied_by
  stop_effect c k a z e = quiet_effect t (Stop c k) refl z (e ∙ rw a.subject_is refl)

-- THE TABLE

-- the message that a send adds to those of M, by the log of its sender as it is then, and the registers
pub message-sent : (t : Table) (c : ℕ) (p : Payload) (x : Controller) → Accepted t (Send c p) → x ≡ after t (Send c p)
    → (M : Messages) → messages_of t ≡ M → (k d : ℕ) → k ≡ min x.length capacity
    → (Dated M → fair_register p ≡ true → d ≡ date_of M x.applied p) → (n : MessageNumber) → n ≡ message_number k
    → (m : Message) → m ≡ message_of c n d p → m ≡ sent_message M (at t c) c p
unfolding after sent sent_message
message-sent t c p x q e M em k d ek fd n en m is =
    let h = sendable t c p q in
    let number : k ≡ (at t c).length + 1 = omega (arith, ek, ap (λ (y : Controller). y.length) e, h.room) in
    let date = fd (subst (λ (N : Messages). Dated N) em (formed_dated t q.0)) h.register in
    rw (is, en, number, date, e) refl

-- added to the messages M, in a slot that is bounded
pub sent_added : (t : Table) (c : ℕ) (p : Payload) → Accepted t (Send c p) → (M : Messages) → messages_of t ≡ M
    → (s : ℕ) → s ≡ min M.count (capacity - 1) → (m k : Message) → m ≡ k
    → ◌≡◌ {A = Sent} (record { count = s + 1; messages = set M.slots s m }) (sent_of M k)
unfolding sent_of
sent_added t c p q M em s es m k e =
    let slot : s ≡ M.count = omega (arith, es, ap (λ (N : Messages). N.count) em, (sendable t c p q).slot) in
    rw (slot, e) refl

-- the table with them
pub stored_send : (t : Table) (c i : ℕ) (p : Payload) (x : Controller) → x ≡ after t (Send c p) → i ≡ c - 1
    → (r : Sent) → r ≡ sent_of (messages_of t) (sent_message (messages_of t) (at t c) c p)
    → ◌≡◌ {A = Table} (record { version = t.version; n = t.n; count = r.count; messages = r.messages; controllers = set t.controllers i x }) (next t (Send c p))
unfolding sent_of next subject with_sent with_controller with_message
stored_send t c i p x e ei r er = rw (er, e, ei) refl

-- an event of another kind
pub stored_else : (t : Table) (e : Event) (i : ℕ) (x : Controller) → (tag_of event.the_type e ≡ 1) ⊎ (tag_of event.the_type e ≡ 2) → i ≡ subject e - 1 → x ≡ after t e
    → ◌≡◌ {A = Table} (record { version = t.version; n = t.n; count = t.count; messages = t.messages; controllers = set t.controllers i x }) (next t e)
unfolding next with_sent with_controller
stored_else t (Send c p) i x (inl q) ei f = absurd (omega arith)
stored_else t (Send c p) i x (inr q) ei f = absurd (omega arith)
stored_else t (Handover r o) i x q ei f = rw (f, ei) refl
stored_else t (Stop c k) i x q ei f = rw (f, ei) refl

-- an event that is no send is a handover or a stop
pub other_kind : (e : Event) → ((c : ℕ) (p : Payload) → e ≡ Send c p → ⊥) → (tag_of event.the_type e ≡ 1) ⊎ (tag_of event.the_type e ≡ 2)
other_kind (Send c p) n = absurd (n c p refl)
other_kind (Handover r o) n = inl refl
other_kind (Stop c k) n = inr refl

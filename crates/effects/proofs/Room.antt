-- What the code of an event relies on where no question refuses it: its controllers have seats, and its stores have room. Assumes nothing.
use mathlib.Core.Path.{◌≡◌, refl, ◌∙◌}
use mathlib.Core.Logic.{◌≢◌}
use mathlib.Core.Bool.{true, false}
use Prim.Native.Nat.{ℕ, ◌+◌, ◌-◌, ◌≤◌, ◌<◌}
use native.Mathlib.Omega.{arith}
use native.Mathlib.Decide.{dec_lt}
use lib.ListN.{length, get_or, get_or-eq_default}
use lib.Dec.{leb}
use Rattle.lists.proofs.Tests.{contradiction}
use Rattle.model.specs.Tables.{seats, capacity, yes?, no_controller, unheld, at, controller_in, message, place, held, highest, messages_of, with_entry, with_read}
use Rattle.model.specs.Delivery.{has}
use Rattle.model.specs.Events.{received, handover_set, subject}
use Rattle.model.specs.Fair.{fair_register}
use Rattle.model.specs.declared.Payload.{Payload}
use Rattle.model.specs.declared.Table.{Table}
use Rattle.model.specs.declared.Event.{Event}
use Rattle.model.specs.declared.Event.TheVariants.{Send, Handover}
use Rattle.model.specs.Facts.{Among, WellFormed}
use Rattle.model.proofs.Tested.{facts}
use Rattle.model.proofs.Allowed.{HandoverAllowed, send_allowed, handover_allowed, subject_allowed}
use Rattle.model.proofs.Handovers.{next_at, received_at, set_at}
use Rattle.model.proofs.Largest.{applicable-held, applicable-largest}
use Rattle.invariant.proofs.Stores.{seated, marked_held_other, forward_case}
use Rattle.invariant.proofs.Logs.{log_within, log_shorter}
use Rattle.invariant.proofs.Receiving.{above_unapplied, next_slot_run}
use Rattle.effects.specs.Conditions.{Accepted, Readable, Deliverable}

-- the subject of an accepted event has a seat
pub subject_seated : (t : Table) (e : Event) → Accepted t e → Among seats (subject e)
subject_seated t e q = seated (facts t q.0).few (subject_allowed t e q.1)

-- A SEND

pub record Sendable (t : Table) (c : ℕ) (p : Payload) : Type 0 where
  pub sender : Among seats c
  pub slot : t.count < capacity
  pub room : (at t c).length < capacity
  pub register : fair_register p ≡ true

pub sendable : (t : Table) (c : ℕ) (p : Payload) → Accepted t (Send c p) → Sendable t c p
sendable t c p q =
    let w = facts t q.0 in
    let a = send_allowed t c p q.1 in
    record {
      sender = seated w.few a.sender;
      slot = a.room;
      room = omega (arith, log_within t c (at t c) (w.controllers c a.sender));
      register = a.register;
    }

-- A HANDOVER

module _ (t : Table) (w : WellFormed t) (r o : ℕ) (a : HandoverAllowed t r o) where
  -- what is neither applied nor buffered is not in the log, so that the log has room
  entry_room : (s : ℕ) → s < t.count → leb (message t s).number.0 (highest (at t r) (message t s).sender) ≡ false
      → held (at t r) s ≡ false → (at t r).length < capacity
  entry_room s h above out =
      let g = w.controllers r a.receiver in
      omega (arith, w.fitting, log_shorter t r (at t r) g s h (g.exact a.running s h ∙ rw (out, above_unapplied t w r (at t r) g s h above) refl))

  entry_readable : Readable t.messages (at t r) (at t o) o
  entry_readable =
      let s = next_slot_run t w r o a in
      let p = (w.controllers o a.owner).log_room in
      record {
        owner = seated w.few a.owner;
        next = omega (arith, a.unread);
        slot = omega (arith, w.fitting);
        entry = record {
          sender = seated w.few (w.senders (next_at t r o) s);
          owner = seated w.few a.owner;
          room = entry_room (next_at t r o) s;
        };
      }

  -- what the run has not is neither read nor buffered
  outside_unheld : (s : ℕ) → s < capacity → t.count ≤ s → held (received_at t r o) s ≡ false
  unfolding received
  outside_unheld s l h =
      let x = with_read (at t r) o in
      let i = next_at t r o in
      let out = ((w.controllers r a.receiver).outside s l h).0 in
      let d : s ≢ i = λ e. omega (arith, next_slot_run t w r o a) in
      forward_case (λ c. held c s ≡ false) x (message t i) i o (place (at t r) o + 1)
      (λ _. out) (λ _ _. marked_held_other x i _ o _ s d ∙ out)
      (λ _ _. marked_held_other (with_entry x i) i unheld.marks o _ s d ∙ out)

  -- the set that it applies is of messages of the run
  set_of_run : (s : ℕ) → has (set_at t r o) s ≡ true → s < t.count
  set_of_run s m = of_run (dec_lt s t.count) (dec_lt s capacity)
    where
      buffered : s < capacity → held (received_at t r o) s ≡ true
      buffered l = unfold handover_set in (applicable-held t.n (received_at t r o).pending s l m)

      size : length (set_at t r o) ≡ capacity
      size = unfold handover_set in (applicable-largest t.n (received_at t r o).pending).size

      of_run : Dec (s < t.count) → Dec (s < capacity) → s < t.count
      of_run (yes h) d = h
      of_run (no h) (yes l) = contradiction (buffered l) (outside_unheld s l (omega arith))
      of_run (no h) (no l) = contradiction m (get_or-eq_default (set_at t r o) false (omega (arith, size)))

module _ (t : Table) (r o : ℕ) (q : Accepted t (Handover r o)) where
  pub readable : Readable t.messages (at t r) (at t o) o
  readable = entry_readable t (facts t q.0) r o (handover_allowed t r o q.1)

  pub deliverable : Deliverable (messages_of t) (set_at t r o)
  deliverable =
      let w = facts t q.0 in
      record {
        fits = w.fitting;
        senders = λ s h. seated w.few (w.senders s h);
        of_run = set_of_run t w r o (handover_allowed t r o q.1);
      }

  -- the receiver runs, and so stands in the table
  pub receiver_within : r - 1 < length t.controllers
  unfolding controller_in
  receiver_within = go (dec_lt (r - 1) (length t.controllers)) (handover_allowed t r o q.1).running
    where
      go : Dec (r - 1 < length t.controllers) → yes? (at t r).running ≡ true → r - 1 < length t.controllers
      go (yes h) e = h
      go (no h) e = let none : get_or t.controllers (r - 1) no_controller ≡ no_controller = get_or-eq_default t.controllers no_controller (omega arith) in cc

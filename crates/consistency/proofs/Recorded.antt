-- The ledger and the table say the same: the record of it, the names that a ledger knows as slots of the table, and the start.
-- Assumes nothing.
use mathlib.Core.Path.{◌≡◌, refl, sym, ap, subst, ◌∙◌}
use mathlib.Core.Bool.{true, not}
use mathlib.Core.List.{[], map, flatten}
use Prim.Native.Nat.{ℕ, ◌-◌, ◌<◌}
use native.Mathlib.Nat.{not-suc-le-zero}
use native.Mathlib.Omega.{arith}
use lib.ListN.{get_or-replicate}
use lib.IntN.{ℤ, pos, ◌-ℤ◌}
use Rattle.lists.specs.Build.{tabulate_from, tabulate}
use Rattle.lists.proofs.Tests.{and_right, contradiction}
use Rattle.lists.proofs.Grow.{map-tabulate}
use Rattle.model.specs.Tables.{seats, yes?, at, message, place, slot_at, applied, idle, start as begun, fresh, with_controller, with_message, message_in, messages_of}
use Rattle.model.specs.Delivery.{Slots, has as member}
use Rattle.model.specs.Events.{sent_message, with_sent, next, name_of, names_of}
use Rattle.model.specs.Sized.{Sized}
use Rattle.model.specs.Facts.{in_log, Among, GoodController, WellFormed}
use Rattle.model.specs.declared.Name.{Name}
use Rattle.model.specs.declared.Message.{Message}
use Rattle.model.specs.declared.Payload.{Payload}
use Rattle.model.specs.declared.Controller.{Controller}
use Rattle.model.specs.declared.Table.{Table}
use Rattle.model.specs.declared.Event.{Event}
use Rattle.model.specs.declared.Event.TheVariants.{Send, Handover, Stop}
use Rattle.model.specs.Questions.{FreshAllowed}
use Rattle.invariant.proofs.Stores.{seated, message_old}
use Rattle.invariant.proofs.Sizes.{fresh_sized}
use Rattle.invariant.proofs.Kept.{at-fresh, fresh_well_formed}
use Rattle.consistency.specs.Entries.{has, Distinct, Said}
use Rattle.consistency.specs.Ledger.{Sent, Ledger, start, sent_names}
use Rattle.consistency.proofs.Names.{same_true, has-tabulate-at, has-tabulate_of, distinct-tabulate}
use Rattle.consistency.proofs.SlotNames.{name_at, names_at, slots_differ, log_names}

-- an amount, from its two magnitudes
abbrev pub balance : Payload → ℤ
balance p = pos p.added -ℤ pos p.withdrawn

-- what a record says that sends this payload
abbrev pub said_of : Payload → Said
said_of p = record { kind = p.kind; amount = balance p; class = p.class; reg = p.reg; value = p.value }

-- what the ledger keeps of a message, and of that of slot j
abbrev pub sent_of : Message → Sent
sent_of m = record { name = name_of m; date = m.date; payload = m.payload; said = said_of m.payload }

abbrev pub sent_at : Table → ℕ → Sent
sent_at t j = sent_of (message t j)

-- the sender of slot j
abbrev pub sender_at : Table → ℕ → ℕ
sender_at t j = (message t j).sender

-- a slot of the run with this name
pub record Slot (t : Table) (m : Name) : Type 0 where
  pub which : ℕ
  pub below : which < t.count
  pub named : name_at t which ≡ m

-- what holds of the names of slots holds of it
pub slot_case : {t : Table} {m : Name} (P : Name → Type 0) → Slot t m → ((j : ℕ) → j < t.count → P (name_at t j)) → P m
slot_case P s f = subst P s.named (f s.which s.below)

pub record Recorded (n : ℕ) (t : Table) (l : Ledger) : Type 0 where
  pub sized : Sized t
  pub formed : WellFormed t
  pub size : t.n ≡ n
  pub logs : (c : ℕ) → Among n c → l.log c ≡ log_names t (at t c)
  pub places : (r o : ℕ) → Among n r → Among n o → l.place r o ≡ place (at t r) o
  pub runs : (c : ℕ) → Among n c → l.runs c ≡ yes? (at t c).running
  pub sent : l.sent ≡ tabulate t.count (sent_at t)
  -- cut off is what its sender's log lacks
  pub cut : (j : ℕ) → j < t.count → has (name_at t j) l.cut ≡ not (in_log (at t (sender_at t j)) j)
  pub cut_sent : (m : Name) → has m l.cut ≡ true → Slot t m
  pub applies : (c : ℕ) → Among n c → (j : ℕ) → j < t.count → has (name_at t j) (flatten (l.sets c)) ≡ applied (at t c) j
  pub applied_sent : (c : ℕ) (m : Name) → has m (flatten (l.sets c)) ≡ true → Slot t m
  pub once : (c : ℕ) → Distinct (flatten (l.sets c))
  pub unnamed : (c : ℕ) → (Among n c → ⊥) → l.sets c ≡ []

-- NAMES AS SLOTS

pub log_slot : (t : Table) (i : ℕ) (x : Controller) → GoodController t i x → (m : Name) → has m (log_names t x) ≡ true → Slot t m
unfolding log_names
log_slot t i x g m e =
    let o = has-tabulate-at (λ k. name_at t (slot_at x k)) m x.length e in
    record { which = slot_at x o.which; below = g.log_run o.which o.below; named = sym (same_true m _ o.passes) }

pub names_slot : (t : Table) (S : Slots) (m : Name) → has m (names_of (messages_of t) S) ≡ true → Slot t m
names_slot t S m e =
    let o = names_at t S m e in
    record { which = o.which; below = o.below; named = sym (same_true m _ (and_right (member S o.which) _ o.passes)) }

-- no event takes a message away
pub slot_kept : (t : Table) (e : Event) (m : Name) → Slot t m → Slot (next t e) m
unfolding next with_sent with_controller with_message message_in
slot_kept t (Send c p) m s = record {
  which = s.which;
  below = omega (arith, s.below);
  named = ap (λ (y : Message). name_of y) (message_old t (sent_message (messages_of t) (at t c) c p) s.which s.below) ∙ s.named;
}
slot_kept t (Handover r o) m s = record { which = s.which; below = s.below; named = s.named }
slot_kept t (Stop c k) m s = record { which = s.which; below = s.below; named = s.named }

module _ {n : ℕ} {t : Table} {l : Ledger} (r : Recorded n t l) where
  sent-names : sent_names l ≡ tabulate t.count (name_at t)
  sent-names = ap (map (λ (m : Sent). m.name)) r.sent ∙ map-tabulate (λ (m : Sent). m.name) t.count (sent_at t)

  pub slot_sent : (m : Name) → Slot t m → has m (sent_names l) ≡ true
  slot_sent m s = ap (has m) sent-names ∙ has-tabulate_of (name_at t) m t.count s.which s.below s.named

  pub sent_slot : (m : Name) → has m (sent_names l) ≡ true → Slot t m
  sent_slot m e =
      let o = has-tabulate-at (name_at t) m t.count (sym (ap (has m) sent-names) ∙ e) in
      record { which = o.which; below = o.below; named = sym (same_true m (name_at t o.which) o.passes) }

  -- what was applied was sent
  pub applied-known : (c : ℕ) (m : Name) → has m (flatten (l.sets c)) ≡ true → has m (sent_names l) ≡ true
  applied-known c m e = slot_sent m (r.applied_sent c m e)

  -- whatever an event answers was sent before it
  pub names-sent : (S : Slots) (m : Name) → has m (names_of (messages_of t) S) ≡ true → has m (sent_names l) ≡ true
  names-sent S m e = slot_sent m (names_slot t S m e)

  -- no name is sent twice
  pub distinct-sent : Distinct (sent_names l)
  distinct-sent = rw sent-names (distinct-tabulate (name_at t) t.count (λ i j h k. slots_differ t r.formed i j h (omega arith) (omega arith)))

-- THE START

pub start_recorded : {v n : ℕ} → FreshAllowed v n → Recorded n (fresh v n) start
unfolding fresh begun idle start has Distinct flatten log_names tabulate tabulate_from
start_recorded {v} {n} a = record {
  sized = fresh_sized v n;
  formed = fresh_well_formed a;
  size = refl;
  logs = λ c h. rw (at-fresh v n c (seat h));
  places = λ r o h k. rw (at-fresh v n r (seat h)) (sym (get_or-replicate {A = ℕ} seats (o - 1) 0 0 (omega (arith, seat k))));
  runs = λ c h. rw (at-fresh v n c (seat h));
  sent = refl;
  cut = λ j h. absurd (not-suc-le-zero h);
  cut_sent = λ m e. contradiction e refl;
  applies = λ c h j k. absurd (not-suc-le-zero k);
  applied_sent = λ c m e. contradiction e refl;
  once = λ c. tt;
  unnamed = λ c h. refl;
}
  where
    seat : {c : ℕ} → Among n c → Among seats c
    seat = seated a.few

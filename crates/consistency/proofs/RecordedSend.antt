-- The ledger and the table say the same after an accepted report, sync or write. Assumes nothing.
use mathlib.Core.Path.{◌≡◌, refl, sym, ap, ap₂, subst, ◌∙◌}
use mathlib.Core.Bool.{true, false, not}
use mathlib.Core.List.{List, [], ◌∷◌, ◌++◌, flatten}
use Prim.Native.Nat.{ℕ, ◌+◌, ◌<◌}
use native.Mathlib.Omega.{arith}
use lib.ListN.{length}
use Rattle.lists.specs.Build.{tabulate}
use Rattle.lists.proofs.Tests.{refuted}
use Rattle.lists.proofs.Build.{tabulate_ext}
use Rattle.lists.proofs.Grow.{tabulate_last}
use Rattle.model.specs.Tables.{capacity, yes?, at, message, place, applied, no_message, with_controller, with_message, message_in, messages_of}
use Rattle.model.specs.Sized.{SizedController}
use Rattle.model.specs.Questions.{first_no, event_questions}
use Rattle.model.specs.Events.{name_of, sent_message, sent, subject, after, with_sent, next}
use Rattle.model.specs.Facts.{in_log, Among, GoodController}
use Rattle.model.specs.declared.Name.{Name}
use Rattle.model.specs.declared.Message.{Message}
use Rattle.model.specs.declared.Payload.{Payload}
use Rattle.model.specs.declared.Controller.{Controller}
use Rattle.model.specs.declared.Table.{Table}
use Rattle.model.specs.declared.Event.TheVariants.{Send}
use Rattle.model.proofs.Allowed.{SendAllowed, send_allowed}
use Rattle.invariant.proofs.Stores.{seated, at_sized, message_new, message_old}
use Rattle.invariant.proofs.Sizes.{next_sized}
use Rattle.invariant.proofs.Logs.{log_within, entered_in_log, entered_in_log_other}
use Rattle.invariant.proofs.Kept.{next_well_formed}
use Rattle.invariant.proofs.Sending.{Added, new, old, added}
use Rattle.consistency.specs.Entries.{name, has, Said, carried}
use Rattle.consistency.specs.Ledger.{Sent, Ledger, date_for, moved}
use Rattle.consistency.proofs.SlotNames.{log_names, length_log, log_entered, log_added}
use Rattle.consistency.proofs.Recorded.{said_of, sent_of, sent_at, sender_at, Slot, Recorded, slot_kept}
use Rattle.consistency.proofs.LedgerRegisters.{date_known}
use Rattle.consistency.proofs.RecordedChanges.{at_case, at_kept, put-at}

-- the run with the message that c sends
abbrev longer : Table → ℕ → Payload → Table
longer t c p = with_message t (sent_message (messages_of t) (at t c) c p)

module _ {t : Table} {l : Ledger} (k : Recorded t.n t l) (c : ℕ) (p : Payload) (q : first_no (event_questions t (Send c p)) ≡ 0)
    (s : Said) (says : s ≡ said_of p) (ms : List Name) where
  a : SendAllowed t c p
  a = send_allowed t c p q

  good : (d : ℕ) → Among t.n d → GoodController t d (at t d)
  good = k.formed.controllers

  sender_sized : SizedController (at t c)
  sender_sized = at_sized t c k.sized (seated k.formed.few a.sender)

  log_room : (at t c).length < capacity
  log_room = omega (arith, a.room, log_within t c (at t c) (good c a.sender))

  log_length : length (l.log c) ≡ (at t c).length
  log_length = ap length (k.logs c a.sender) ∙ length_log t (at t c)

  new_message : message (longer t c p) t.count ≡ sent_message (messages_of t) (at t c) c p
  new_message = message_new t (sent_message (messages_of t) (at t c) c p) k.sized a.room

  log_after : l.log c ++ (name c (length (l.log c) + 1) ∷ []) ≡ log_names (longer t c p) (sent t.count (at t c) c)
  unfolding log_names sent_message sent
  log_after =
      ap₂ (λ (xs : List Name) (m : Name). xs ++ (m ∷ []))
      (k.logs c a.sender ∙ sym (log_added t (sent_message (messages_of t) (at t c) c p) c (at t c) (good c a.sender)))
      (rw log_length (ap (λ (m : Message). name_of m) (sym new_message)))
      ∙ sym (log_entered (longer t c p) (at t c) t.count sender_sized log_room)

  sent-after : l.sent ++ (record { name = name c (length (l.log c) + 1); date = date_for l c s; payload = p; said = s } ∷ [])
      ≡ tabulate (t.count + 1) (sent_at (longer t c p))
  unfolding sent_message
  sent-after =
      ap₂ (λ (xs : List Sent) (x : Sent). xs ++ (x ∷ []))
      (k.sent ∙ tabulate_ext t.count _ _ (sent_of no_message) (λ j h. ap (λ (m : Message). sent_of m) (sym (message_old t (sent_message (messages_of t) (at t c) c p) j h))))
      (rw (log_length, says, date_known k c a.sender p) (ap (λ (m : Message). sent_of m) (sym new_message)))
      ∙ sym (tabulate_last (sent_at (longer t c p)) t.count)

  -- THE NEW NAME

  -- no slot had it before
  unsent : Slot t (name_of (sent_message (messages_of t) (at t c) c p)) → ⊥
  unfolding sent_message
  unsent f =
      omega (arith, (good c a.sender).long a.running f.which f.below (ap (λ (y : Name). y.sender) f.named), ap (λ (y : Name). y.number.0) f.named)

  has_new : (ms : List Name) → ((m : Name) → has m ms ≡ true → Slot t m) → has (name_of (sent_message (messages_of t) (at t c) c p)) ms ≡ false
  has_new ms f = refuted (has (name_of (sent_message (messages_of t) (at t c) c p)) ms) (λ e. unsent (f (name_of (sent_message (messages_of t) (at t c) c p)) e))

  -- EVERY SLOT

  -- of the new slot and its message, and of the old ones
  each_slot : (P : ℕ → Message → Type 0) → P t.count (sent_message (messages_of t) (at t c) c p) → ((j : ℕ) → j < t.count → P j (message t j))
      → (j : ℕ) → j < t.count + 1 → P j (message (longer t c p) j)
  each_slot P n o j h = go (added t (sent_message (messages_of t) (at t c) c p) k.sized a.room j h)
    where
      go : Added t (sent_message (messages_of t) (at t c) c p) j → P j (message (longer t c p) j)
      go (new q e) = subst (P j) (sym e) (subst (λ i. P i (sent_message (messages_of t) (at t c) c p)) (sym q) n)
      go (old q e) = subst (P j) (sym e) (o j q)

  abbrev now : ℕ → Controller
  now d = at (next t (Send c p)) d

  log_old : (d : ℕ) → Among t.n d → (j : ℕ) → j < t.count → in_log (now d) j ≡ in_log (at t d) j
  unfolding subject after sent in_log
  log_old d h j b = at_kept k (Send c p) q h (λ y. in_log y j) (entered_in_log_other (at t c) t.count sender_sized log_room j (omega arith))

  applied_old : (d : ℕ) → Among t.n d → (j : ℕ) → applied (now d) j ≡ applied (at t d) j
  unfolding subject after sent
  applied_old d h j = at_kept k (Send c p) q h (λ y. applied y j) refl

  log_new : in_log (now c) t.count ≡ true
  unfolding subject after sent in_log
  log_new = at_case k (Send c p) q a.sender (λ y. in_log y t.count ≡ true) (λ _. entered_in_log (at t c) t.count sender_sized log_room) (λ n. absurd (n refl))

  pub send_recorded : Recorded t.n (next t (Send c p)) (moved l (carried s (Send c p) ms))
  unfolding next subject after with_sent sent_message sent moved with_controller with_message message_in log_names
  send_recorded = record {
    sized = next_sized t (Send c p) k.sized;
    formed = next_well_formed t (Send c p) k.sized k.formed q;
    size = refl;
    logs = λ d h. put-at k (Send c p) q h (λ xs y. xs ≡ log_names (longer t c p) y) l.log _ log_after
        (k.logs d h ∙ sym (log_added t (sent_message (messages_of t) (at t c) c p) d (at t d) (good d h)));
    places = λ r o h ho. k.places r o h ho ∙ sym (at_kept k (Send c p) q h (λ y. place y o) refl);
    runs = λ d h. k.runs d h ∙ sym (at_kept k (Send c p) q h (λ y. yes? y.running) refl);
    sent = sent-after;
    cut = each_slot (λ j m. has (name_of m) l.cut ≡ not (in_log (now m.sender) j)) (has_new l.cut k.cut_sent ∙ rw log_new)
        (λ j h. k.cut j h ∙ ap not (sym (log_old (sender_at t j) (k.formed.senders j h) j h)));
    cut_sent = λ m e. slot_kept t (Send c p) m (k.cut_sent m e);
    applies = λ d h. each_slot (λ j m. has (name_of m) (flatten (l.sets d)) ≡ applied (now d) j)
        (has_new (flatten (l.sets d)) (k.applied_sent d) ∙ sym (applied_old d h t.count ∙ ((good d h).outside t.count a.room (omega arith)).1))
        (λ j b. k.applies d h j b ∙ sym (applied_old d h j));
    applied_sent = λ d m e. slot_kept t (Send c p) m (k.applied_sent d m e);
    once = k.once;
    unnamed = k.unnamed;
  }

-- The ledger and the table say the same after an accepted handover, on a table that a run reaches.
-- Assumes nothing.
use mathlib.Core.Path.{◌≡◌, refl, sym, ap, ap₂, ◌∙◌}
use mathlib.Core.Bool.{Bool, true, false, not, ◌||◌, cond, or_comm}
use mathlib.Core.Logic.{inl, inr}
use mathlib.Core.List.{List, [], ◌∷◌, ◌++◌, flatten}
use Prim.Native.Nat.{ℕ, ◌+◌, ◌-◌, ◌<◌}
use native.Mathlib.Omega.{arith}
use lib.ListN.{get_or}
use lib.Dec.{leb}
use Rattle.lists.proofs.Tests.{cond_case, cond_true, cond_false, or_cases, or_left, or_right, refuted, contradiction}
use Rattle.model.specs.Tables.{seats, yes?, at, message, place, held, applied, highest, no_name, with_controller, with_entry, with_read, message_in, messages_of}
use Rattle.model.specs.Delivery.{has as member}
use Rattle.model.specs.Events.{next_slot, received, deliver, names_of, subject, after, with_sent, next}
use Rattle.model.specs.Facts.{in_log, Among, GoodController}
use Rattle.model.specs.Questions.{first_no, event_questions}
use Rattle.model.specs.declared.Name.{Name}
use Rattle.model.specs.declared.Controller.{Controller}
use Rattle.model.specs.declared.Table.{Table}
use Rattle.model.specs.declared.Event.TheVariants.{Handover}
use Rattle.model.proofs.Allowed.{HandoverAllowed, handover_allowed}
use Rattle.model.proofs.Handovers.{next_at, received_at, set_at}
use Rattle.invariant.proofs.Stores.{seated, at_sized, read_place, read_place_other, forward_case}
use Rattle.invariant.proofs.Sizes.{read_sized, next_sized}
use Rattle.invariant.proofs.Logs.{log_shorter}
use Rattle.invariant.proofs.Delivering.{delivered_applied}
use Rattle.invariant.proofs.Receiving.{above_unapplied, next_slot_run, receiver_good}
use Rattle.invariant.proofs.Kept.{next_well_formed}
use Rattle.invariant.proofs.Counter.{received-applied, applied_new}
use Rattle.broadcast.specs.State.{State}
use Rattle.consistency.specs.Entries.{has, Distinct, Said, carried}
use Rattle.consistency.specs.Ledger.{Ledger, put, moved}
use Rattle.consistency.proofs.Bridge.{Related}
use Rattle.consistency.proofs.BridgeFacts.{own_logged}
use Rattle.consistency.proofs.Names.{has-append, flatten_last, distinct_append}
use Rattle.consistency.proofs.SlotNames.{name_at, log_names, log_at, log_entered, has_log, has-names, distinct-names}
use Rattle.consistency.proofs.PassedOver.{passed_applied}
use Rattle.consistency.proofs.Recorded.{sender_at, Slot, slot_case, Recorded, names_slot, slot_kept}
use Rattle.consistency.proofs.RecordedChanges.{put_case, at_case, at_kept, put-at}

-- READING

-- where the receiver reads, and that it runs
received-same : (t : Table) (r o : ℕ) → ((received_at t r o).read ≡ (with_read (at t r) o).read) × ((received_at t r o).running ≡ (at t r).running)
unfolding received
received-same t r o =
    forward_case (λ (x : Controller). (x.read ≡ (with_read (at t r) o).read) × (x.running ≡ (at t r).running))
    (with_read (at t r) o) (message t (next_at t r o)) (next_at t r o) o (place (at t r) o + 1)
    (λ _. (refl, refl)) (λ _ _. (refl, refl)) (λ _ _. (refl, refl))

-- the receiver after it has applied
abbrev receiver_after : Table → ℕ → ℕ → Controller
receiver_after t r o = deliver (messages_of t) (received_at t r o) (set_at t r o)

module _ {n : ℕ} {t : Table} {u : State} {l : Ledger} (g : Related n t u) (k : Recorded t.n t l) (r o : ℕ) (q : first_no (event_questions t (Handover r o)) ≡ 0) where
  a : HandoverAllowed t r o
  a = handover_allowed t r o q

  good : GoodController t r (at t r)
  good = k.formed.controllers r a.receiver

  at_seat : {d : ℕ} → Among t.n d → Among seats d
  at_seat = seated k.formed.few

  entry_run : next_at t r o < t.count
  entry_run = next_slot_run t k.formed r o a

  abbrev passed : Bool
  passed = leb (message t (next_at t r o)).number.0 (highest (at t r) (message t (next_at t r o)).sender)

  unapplied : passed ≡ false → applied (at t r) (next_at t r o) ≡ false
  unapplied = above_unapplied t k.formed r (at t r) good (next_at t r o) entry_run

  in_log_lem : in_log (at t r) (next_at t r o) ≡ (held (at t r) (next_at t r o) || applied (at t r) (next_at t r o))
  in_log_lem = good.exact a.running (next_at t r o) entry_run

  log_read : log_names t (received_at t r o) ≡ cond (in_log (at t r) (next_at t r o)) (log_names t (at t r)) (log_names t (at t r) ++ (name_at t (next_at t r o) ∷ []))
  unfolding received log_names
  log_read =
      forward_case (λ (x : Controller). log_names t x ≡ cond (in_log (at t r) (next_at t r o)) (log_names t (at t r)) (log_names t (at t r) ++ (name_at t (next_at t r o) ∷ [])))
      (with_read (at t r) o) (message t (next_at t r o)) (next_at t r o) o (place (at t r) o + 1)
      (λ e. sym (cond_true _ _ (in_log_lem ∙ or_right (held (at t r) (next_at t r o)) (passed_applied g r o a e))))
      (λ _ e. sym (cond_true _ _ (in_log_lem ∙ or_left _ e)))
      (λ above e. new (in_log_lem ∙ rw (e, unapplied above) refl))
    where
      new : in_log (at t r) (next_at t r o) ≡ false
          → log_names t (with_entry (with_read (at t r) o) (next_at t r o))
          ≡ cond (in_log (at t r) (next_at t r o)) (log_names t (at t r)) (log_names t (at t r) ++ (name_at t (next_at t r o) ∷ []))
      new lacks =
          log_entered t (with_read (at t r) o) (next_at t r o) (read_sized (at t r) o (at_sized t r k.sized (at_seat a.receiver)))
          (omega (arith, log_shorter t r (at t r) good (next_at t r o) entry_run lacks, k.formed.fitting))
          ∙ sym (cond_false _ _ lacks)

  -- the entry's name, and whether the receiver's log has it
  entry-name : get_or (l.log o) (l.place r o) no_name ≡ name_at t (next_at t r o)
  unfolding next_slot
  entry-name = rw (k.logs o a.owner, k.places r o a.receiver a.owner) (log_at t (at t o) (place (at t r) o) a.unread)

  log_after : cond (has (get_or (l.log o) (l.place r o) no_name) (l.log r)) (l.log r) (l.log r ++ (get_or (l.log o) (l.place r o) no_name ∷ []))
      ≡ log_names t (receiver_after t r o)
  unfolding deliver log_names
  log_after = rw (entry-name, k.logs r a.receiver, has_log t k.formed (at t r) good.log_run (next_at t r o) entry_run) (sym log_read)

  -- the receiver's log only grows
  log_grows : (j : ℕ) → j < t.count → in_log (at t r) j ≡ true → in_log (receiver_after t r o) j ≡ true
  unfolding deliver log_names
  log_grows j h e =
      sym (has_log t k.formed (receiver_after t r o) (receiver_good t k.formed k.sized r o a).log_run j h)
      ∙ ap (has (name_at t j)) log_read
      ∙ cond_case (λ (xs : List Name). has (name_at t j) xs ≡ true) (in_log (at t r) (next_at t r o)) (log_names t (at t r)) _ (λ _. old)
      (λ _. has-append (name_at t j) (log_names t (at t r)) _ ∙ or_left _ old)
    where
      old : has (name_at t j) (log_names t (at t r)) ≡ true
      old = has_log t k.formed (at t r) good.log_run j h ∙ e

  -- the receiver runs, so its log has all its messages
  uncut : (j : ℕ) → j < t.count → sender_at t j ≡ r → has (name_at t j) l.cut ≡ not (in_log (receiver_after t r o) j)
  uncut j h e = let in-own = own_logged g r j h e a.running in k.cut j h ∙ rw (e, in-own, log_grows j h in-own)

  place_after : (q : ℕ) → Among t.n q → put (l.place r) o (l.place r o + 1) q ≡ place (receiver_after t r o) q
  unfolding deliver
  place_after q h =
      put_case (λ (x : ℕ). x ≡ place (with_read (at t r) o) q) (l.place r) o (l.place r o + 1) q
      (λ e. rw (e, k.places r o a.receiver a.owner) (sym (read_place (at t r) o (at_sized t r k.sized (at_seat a.receiver)) (at_seat a.owner))))
      (λ d. k.places r q a.receiver h ∙ sym (read_place_other (at t r) o q (at_seat a.owner) (at_seat h) d))
      ∙ ap (λ (xs : List ℕ). get_or xs (q - 1) 0) (sym (received-same t r o).0)

  -- THE SET APPLIED

  abbrev answer : List Name
  answer = names_of (messages_of t) (set_at t r o)

  applied_slot : (m : Name) → has m (flatten (l.sets r ++ (answer ∷ []))) ≡ true → Slot t m
  applied_slot m e =
      let q = or_cases (has m (flatten (l.sets r))) (has m answer) (sym (has-append m (flatten (l.sets r)) answer) ∙ sym (ap (has m) (flatten_last (l.sets r) answer)) ∙ e) in
      elim q [ inl x ↦ k.applied_sent r m x | inr x ↦ names_slot t (set_at t r o) m x ]

  applied-after : (j : ℕ) → j < t.count → has (name_at t j) (flatten (l.sets r ++ (answer ∷ []))) ≡ applied (receiver_after t r o) j
  applied-after j h =
      ap (has (name_at t j)) (flatten_last (l.sets r) answer)
      ∙ has-append (name_at t j) (flatten (l.sets r)) answer
      ∙ ap₂ ◌||◌ (k.applies r a.receiver j h) (has-names t k.formed (set_at t r o) j h)
      ∙ or_comm (applied (at t r) j) (member (set_at t r o) j)
      ∙ ap (λ (xs : List ℕ). member (set_at t r o) j || yes? (get_or xs j 0)) (sym (received-applied t r o))
      ∙ sym (delivered_applied t (received_at t r o) (set_at t r o) j (omega (arith, k.formed.fitting)))

  once_after : Distinct (flatten (l.sets r ++ (answer ∷ [])))
  once_after =
      rw (flatten_last (l.sets r) answer)
      (distinct_append (flatten (l.sets r)) answer (k.once r) (distinct-names t k.formed (set_at t r o))
      (λ m e. slot_case (λ m. has m (flatten (l.sets r)) ≡ true → has m answer ≡ false) (k.applied_sent r m e) (λ j h e. refuted (has (name_at t j) answer) (new j h e)) e))
    where
      new : (j : ℕ) → j < t.count → has (name_at t j) (flatten (l.sets r)) ≡ true → has (name_at t j) answer ≡ true → ⊥
      new j h e w =
          contradiction (sym (k.applies r a.receiver j h) ∙ e)
          (applied_new t k.formed k.sized r o a j h (sym (has-names t k.formed (set_at t r o) j h) ∙ w))

  pub handover_recorded : (s : Said) → Recorded t.n (next t (Handover r o)) (moved l (carried s (Handover r o) answer))
  unfolding next subject after with_sent deliver moved with_controller message_in log_names
  handover_recorded s = record {
    sized = next_sized t (Handover r o) k.sized;
    formed = next_well_formed t (Handover r o) k.sized k.formed q;
    size = refl;
    logs = λ d h. put-at k (Handover r o) q h (λ xs y. xs ≡ log_names t y) l.log _ log_after (k.logs d h);
    places = λ d e h.
        put-at k (Handover r o) q h (λ f y. Among t.n e → f e ≡ place y e) l.place _ (place_after e) (k.places d e h);
    runs = λ d h. k.runs d h ∙ sym (at_kept k (Handover r o) q h (λ y. yes? y.running) (ap (λ f. yes? f) (received-same t r o).1));
    sent = k.sent;
    cut = λ j h. at_case k (Handover r o) q (k.formed.senders j h) (λ y. has (name_at t j) l.cut ≡ not (in_log y j)) (uncut j h) (λ _. k.cut j h);
    cut_sent = λ m e. slot_kept t (Handover r o) m (k.cut_sent m e);
    applies = λ d h j.
        put-at k (Handover r o) q h (λ ss y. j < t.count → has (name_at t j) (flatten ss) ≡ applied y j) l.sets _ (applied-after j) (k.applies d h j);
    applied_sent = λ d m e. slot_kept t (Handover r o) m
        (put_case (λ (ss : List (List Name)). has m (flatten ss) ≡ true → Slot t m) l.sets r _ d (λ _. applied_slot m) (λ _. k.applied_sent d m) e);
    once = λ d. put_case (λ (ss : List (List Name)). Distinct (flatten ss)) l.sets r _ d (λ _. once_after) (λ _. k.once d);
    unnamed = λ d f. put_case (λ (ss : List (List Name)). ss ≡ []) l.sets r _ d (λ e. absurd (f (rw e a.receiver))) (λ _. k.unnamed d f);
  }

-- An allowed handover is a legal delivery: the set that the receiver applies is the largest one of the abstract system.
-- Assumes nothing.
use mathlib.Core.Path.{◌≡◌, refl, sym, ap, ◌∙◌}
use mathlib.Core.Bool.{Bool, true, false, not, ◌&&◌, or_comm}
use mathlib.Core.Logic.{◌≢◌}
use Prim.Native.Nat.{ℕ, suc, ◌-◌, min, ◌≤◌, ◌<◌}
use native.Mathlib.Omega.{arith}
use Rattle.lists.proofs.Tests.{or-false}
use Rattle.model.specs.Tables.{seats, capacity, absent, at, message, held, applied, messages_of}
use Rattle.model.specs.Delivery.{Slots, has}
use Rattle.model.specs.Rounds.{applicable}
use Rattle.model.specs.Events.{handover_set, deliver, subject, after, with_sent, next}
use Rattle.model.specs.Questions.{first_no, event_questions}
use Rattle.model.specs.declared.Controller.{Controller}
use Rattle.model.specs.declared.Table.{Table}
use Rattle.model.specs.declared.Event.TheVariants.{Handover}
use Rattle.model.proofs.Allowed.{HandoverAllowed, handover_allowed}
use Rattle.model.proofs.Handovers.{next_at, received_at, set_at}
use Rattle.invariant.proofs.Buffering.{unheld-absent}
use Rattle.invariant.proofs.Delivering.{delivered_entry, delivered_held, delivered_applied}
use Rattle.invariant.proofs.Receiving.{received_good, next_slot_run}
use Rattle.broadcast.specs.State.{State, append, fifo_deliver, scd_deliver, forward, receive}
use Rattle.broadcast.specs.Delivery.{Largest}
use Rattle.broadcast.specs.Events.{MayRead, Event, delivers}
use Rattle.broadcast.proofs.Updates.{read_case, delivered_after}
use Rattle.broadcast.proofs.Positions.{Entry}
use Rattle.broadcast.proofs.Invariant.{Invariant, fifo_deliver_invariant}
use Rattle.broadcast.proofs.Legal.{forward_case, forward-entry}
use Rattle.broadcast.proofs.Settled.{fifo_deliver_view, scd_deliver_view}
use Rattle.broadcast.proofs.Stored.{deliver-stored}
use Rattle.broadcast.proofs.Slots.{Slot}
use Rattle.broadcast.proofs.Reachable.{forwarded}
use Rattle.consistency.proofs.Bridge.{top, system, code_at, marks_of, Shows, Related}
use Rattle.consistency.proofs.BridgeFacts.{agrees}
use Rattle.consistency.proofs.BridgeKept.{same_shows, append_others, append_slot_of, append_numbered, Followed, followed}
use Rattle.consistency.proofs.BridgeSets.{code_in_set, in_set_slot, in_set-at, applicable-names}
use Rattle.consistency.proofs.BridgeReceive.{may_read, received_shows, received_running}

-- THE SLOTS OF A SET LEAVE THE BUFFER

module _ (n : ℕ) (t : Table) (fitting : t.count ≤ capacity) (s : State) (i : ℕ) (c : Controller) (S : Slots) (d : ℕ → Bool)
    (same : (j : ℕ) → j < t.count → d (code_at t j) ≡ has S j) where
  pub delivered_shows : Shows n t s i c → Shows n t (scd_deliver s i d) i (deliver (messages_of t) c S)
  unfolding scd_deliver deliver
  delivered_shows h = record {
    length = h.length;
    places = h.places;
    running = h.running;
    log = h.log;
    applied_is = λ j l.
        delivered_after s i d (code_at t j) ∙ rw (h.applied_is j l, same j l) (or_comm (applied c j) (has S j)) ∙ sym (delivered_applied t c S j (omega arith));
    marks = deliver-stored (system n) t.count (code_at t) (marks_of c) (marks_of (deliver (messages_of t) c S)) s i i d cell h.marks;
    absent_marks = λ j f l b e. unmarked j f l b (has S j) refl (sym (delivered_held t c S j l) ∙ e);
  }
    where
      cell : (j f : ℕ) → j < t.count → f < min n seats → (scd_deliver s i d).delivered i (code_at t j) ≡ false → marks_of (deliver (messages_of t) c S) j f ≡ marks_of c j f
      cell j f l b e =
          let o = or-false (s.delivered i (code_at t j)) (d (code_at t j)) (sym (delivered_after s i d (code_at t j)) ∙ e) in
          rw (delivered_entry t c S j (omega arith), sym (same j l) ∙ o.1) refl

      unmarked : (j f : ℕ) → j < capacity → f < seats → (b : Bool) → has S j ≡ b → (not (has S j) && held c j) ≡ false → marks_of (deliver (messages_of t) c S) j f ≡ absent
      unmarked j f l b true p e = rw (delivered_entry t c S j l, p) (unheld-absent f b)
      unmarked j f l b false p e = rw (delivered_entry t c S j l, p) (h.absent_marks j f l b (rw p at e))

-- THE HANDOVER

module _ {n : ℕ} {t : Table} {s : State} (g : Related n t s) (r o : ℕ) (q : first_no (event_questions t (Handover (suc r) (suc o))) ≡ 0) where
  a : HandoverAllowed t (suc r) (suc o)
  a = handover_allowed t (suc r) (suc o) q

  abbrev v : Invariant (system n) s
  v = g.all.invariant

  -- the code of the message read
  abbrev x : ℕ
  x = code_at t (next_at t (suc r) (suc o))

  abbrev R : State
  R = receive (system n) s r o x

  abbrev c : Controller
  c = received_at t (suc r) (suc o)

  abbrev S : Slots
  S = set_at t (suc r) (suc o)

  abbrev u : State
  u = scd_deliver R r (code_in_set t S)

  w : MayRead (system n) s r o x
  w = may_read g r o a

  enters : top ≤ s.position r x → Entry (system n) s r x
  enters = forward-entry (system n) s v r o x w

  received_invariant : Invariant (system n) R
  received_invariant =
      let f = forwarded (system n) s g.all r o x w in
      fifo_deliver_invariant (system n) (forward (system n) s r x) f.invariant r o x w.process f.next f.unread f.mine

  slot : Slot t.count (code_at t) x
  slot = record { slot = next_at t (suc r) (suc o); below = next_slot_run t g.formed (suc r) (suc o) a; is = refl }

  slot_of : (i y : ℕ) → R.position i y < top → Slot t.count (code_at t) y
  unfolding fifo_deliver
  slot_of = forward_case (system n) (λ z. (i y : ℕ) → z.position i y < top → Slot t.count (code_at t) y) s r x
      (λ _. g.slot_of)
      (λ l. append_slot_of n s v r x (enters l) t.count (code_at t) slot g.slot_of)

  numbered : (i : ℕ) → i < t.count → suc (R.position ((message t i).sender - 1) (code_at t i)) ≡ (message t i).number.0
  unfolding fifo_deliver
  numbered i h = forward_case (system n) (λ z. suc (z.position ((message t i).sender - 1) (code_at t i)) ≡ (message t i).number.0) s r x
      (λ _. g.numbered i h)
      (λ l. append_numbered n s v r x (enters l) _ _ _ (g.formed.numbers i h).1 (g.numbered i h))

  set-at : (i : ℕ) → i < t.count → code_in_set t S (code_at t i) ≡ has S i
  set-at = in_set-at t S g.formed

  largest : Largest (system n) R r (code_in_set t S)
  unfolding handover_set
  largest =
      let k = received_good t g.formed g.sized (suc r) (suc o) a in
      applicable-names n t.count (code_at t) c g.formed.fitting (λ i h l. (k.outside i h l).0) R r
      (agrees n t g.formed R received_invariant r (suc r) c k (received_shows g r o a) (received_running g r o a) (slot_of r))
      (code_in_set t S) (λ i h. set-at i h ∙ ap (λ z. has (applicable z c.pending) i) g.size) (in_set_slot t S)

  legal : Event (system n) s u
  legal = delivers r o x (code_in_set t S) w largest

  others_show : (i : ℕ) → i < n → i ≢ r → Shows n t u i (at t (suc i))
  unfolding fifo_deliver scd_deliver append
  others_show i l d =
      same_shows n t.count (code_at t) R u i y (scd_deliver_view (system n) R r (code_in_set t S) i d) refl (λ _. refl) refl
      (same_shows n t.count (code_at t) F R i y (fifo_deliver_view (system n) F r o i d) refl
      (λ q. read_case F r o (λ p. p ≡ F.read i q) i q (λ e _. absurd (d e)) (λ _. refl)) refl
      (forward_case (system n) (λ z. Shows n t z i y) s r x (λ _. g.controllers i l)
      (λ b. append_others n s v r x (enters b) t.count (code_at t) i y d (g.controllers i l))))
    where
      y : Controller
      y = at t (suc i)

      F : State
      F = forward (system n) s r x

  pub handover_followed : Followed n (next t (Handover (suc r) (suc o))) s
  unfolding subject after with_sent scd_deliver
  handover_followed =
      followed g (Handover (suc r) (suc o)) q r refl u legal
      (delivered_shows n t g.formed.fitting R r c S (code_in_set t S) set-at (received_shows g r o a)) others_show slot_of numbered

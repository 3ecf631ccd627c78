-- What a table and a state that shows it have in common: logs, buffers, what is applied, who runs and what is read. Assumes nothing.
use mathlib.Core.Path.{◌≡◌, refl, sym, ap, ◌∙◌}
use mathlib.Core.Bool.{true}
use mathlib.Core.Logic.{◌⊎◌, inl, inr, ◌↔◌}
use Prim.Native.Nat.{ℕ, suc, ◌-◌, ◌*◌, min, ◌≤◌, ◌<◌}
use native.Mathlib.Omega.{arith}
use Rattle.lists.specs.Below.{count}
use Rattle.lists.proofs.Tests.{contradiction, refuted, or_cases}
use Rattle.lists.proofs.Below.{count_ext}
use Rattle.model.specs.Tables.{seats, yes?, at, message, slot_at, place, held, applied}
use Rattle.model.specs.Facts.{in_log, Among, GoodController, WellFormed}
use Rattle.model.specs.declared.Controller.{Controller}
use Rattle.model.specs.declared.Table.{Table}
use Rattle.model.specs.Delivery.{majority}
use Rattle.model.proofs.Largest.{majority_half}
use Rattle.invariant.proofs.Stores.{seated}
use Rattle.invariant.proofs.Logs.{in_log_at, in_log_of}
use Rattle.broadcast.specs.State.{State}
use Rattle.broadcast.specs.Delivery.{Pending}
use Rattle.broadcast.specs.Events.{AllRead, Remains}
use Rattle.broadcast.proofs.Invariant.{Invariant}
use Rattle.broadcast.proofs.Slots.{Slot, Agrees}
use Rattle.consistency.proofs.Bridge.{top, sender_of, system, code_sender, code_injective, code_at, marks_of, Shows, Related}

-- CODES

module _ (t : Table) (w : WellFormed t) where
  -- different slots hold messages of different codes
  pub codes_differ : (i j : ℕ) → i < t.count → j < t.count → code_at t i ≡ code_at t j → i ≡ j
  codes_differ i j hi hj e =
      let p = code_injective (message t i).sender (message t i).number.0 (message t j).sender (message t j).number.0
      (seated w.few (w.senders i hi)) (seated w.few (w.senders j hj)) (w.numbers i hi).0 (w.numbers i hi).1 (w.numbers j hj).0 (w.numbers j hj).1 e in
      w.names i j hi hj p.0 p.1

  pub code_owner : (j : ℕ) → j < t.count → sender_of (code_at t j) ≡ (message t j).sender - 1
  code_owner j h = code_sender (message t j).sender (message t j).number.0 (w.numbers j h).0 (w.numbers j h).1

-- ONE CONTROLLER

module _ (n : ℕ) (t : Table) (w : WellFormed t) (s : State) (v : Invariant (system n) s)
    (i x : ℕ) (c : Controller) (g : GoodController t x c) (h : Shows n t s i c) where
  pub logged_position : (j : ℕ) → in_log c j ≡ true → s.position i (code_at t j) < c.length
  logged_position j e =
      let f = in_log_at c j e in
      omega (arith, f.below, h.log f.index f.below, ap (λ z. s.position i (code_at t z)) f.names)

  pub position_logged : (j : ℕ) → j < t.count → s.position i (code_at t j) < c.length → in_log c j ≡ true
  position_logged j l p =
      let q = s.position i (code_at t j) in
      let e = v.logs.distinct i (code_at t (slot_at c q)) (code_at t j) (omega (arith, h.log q p, g.log_room)) (h.log q p) in
      in_log_of c j (record { index = q; below = p; names = codes_differ t w (slot_at c q) j (g.log_run q p) l e })

  module _ (on : yes? c.running ≡ true) where
    pub length_is : s.length i ≡ c.length
    length_is = sym (v.running_readable i (h.running ∙ on)) ∙ h.length

    pub held_pending : (j : ℕ) → j < t.count → held c j ≡ true → Pending (system n) s i (code_at t j)
    held_pending j l e = record {
      logged = omega (arith, logged_position j (g.exact on j l ∙ rw e refl), g.log_room);
      undelivered = h.applied_is j l ∙ refuted (applied c j) (g.apart j l e);
    }

    pub pending_held : (j : ℕ) → j < t.count → Pending (system n) s i (code_at t j) → held c j ≡ true
    pending_held j l p =
        let q = position_logged j l (omega (arith, v.logs.position_length i (code_at t j) p.logged, length_is)) in
        among (or_cases (held c j) (applied c j) (sym (g.exact on j l) ∙ q))
      where
        among : (held c j ≡ true) ⊎ (applied c j ≡ true) → held c j ≡ true
        among (inl e) = e
        among (inr e) = contradiction e (sym (h.applied_is j l) ∙ p.undelivered)

    pub agrees : ((m : ℕ) → s.position i m < top → Slot t.count (code_at t) m)
        → Agrees (system n) t.count (code_at t) (held c) (marks_of c) s i
    agrees slot_of = record {
      held_pending = held_pending;
      pending_held = pending_held;
      slot_of = λ m p. slot_of m p.logged;
      marks = h.marks;
    }

-- THE WHOLE TABLE

module _ {n : ℕ} {t : Table} {s : State} (g : Related n t s) where
  abbrev v : Invariant (system n) s
  v = g.all.invariant

  pub few : n ≤ seats
  few = omega (arith, g.size, g.formed.few)

  -- what is not in a log
  pub lacking : (i m : ℕ) → (s.position i m < top → ⊥) → s.position i m ≡ top
  lacking i m f = omega (arith, v.logs.position_top i m)

  pub shown : (c : ℕ) → Among n c → Shows n t s (c - 1) (at t c)
  shown c h =
      let q : suc (c - 1) ≡ c = omega arith in
      rw q at (g.controllers (c - 1) (omega arith))

  pub sender_named : (j : ℕ) → j < t.count → Among n (message t j).sender
  sender_named j h = let p = g.formed.senders j h in omega (arith, g.size)

  pub applied_delivered : (c j : ℕ) → Among n c → j < t.count → s.delivered (c - 1) (code_at t j) ≡ applied (at t c) j
  applied_delivered c j h = (shown c h).applied_is j

  pub delivered_slot : (i m : ℕ) → s.delivered i m ≡ true → Slot t.count (code_at t) m
  delivered_slot i m e = g.slot_of i m (v.logged i m e)

  -- a message remains where its sender's log names it
  pub remains_logged : (j : ℕ) → j < t.count → Remains (system n) s (code_at t j) ↔ in_log (at t (message t j).sender) j ≡ true
  remains_logged j l =
      let c = (message t j).sender in
      let h = shown c (sender_named j l) in
      let e = code_owner t g.formed j l in
      let k = g.formed.controllers c (g.formed.senders j l) in (
        (λ p. position_logged n t g.formed s v (c - 1) c (at t c) k h j l (rw (← h.length) (rw e at p))),
        (λ p. rw (e, h.length) (logged_position n t g.formed s v (c - 1) c (at t c) k h j p)),
      )

  -- a running sender's log has all its messages
  pub own_logged : (c j : ℕ) → j < t.count → (message t j).sender ≡ c → yes? (at t c).running ≡ true → in_log (at t c) j ≡ true
  own_logged c j l e on =
      let h = shown c (rw e at (sender_named j l)) in
      let k = g.formed.controllers c (rw e at (g.formed.senders j l)) in
      let low : s.position (c - 1) (code_at t j) < top = omega (arith, g.numbered j l, (g.formed.numbers j l).1, ap (λ z. s.position (z - 1) (code_at t j)) e) in
      position_logged n t g.formed s v (c - 1) c (at t c) k h j l
      (omega (arith, v.logs.position_length (c - 1) (code_at t j) low, length_is n t g.formed s v (c - 1) c (at t c) k h on))

  pub all_read : ((r o : ℕ) → Among n r → Among n o → yes? (at t r).running ≡ true → place (at t r) o ≡ (at t o).length) → AllRead (system n) s
  all_read f = record {
    to_end = λ r o hr ho on.
        let h = g.controllers r (omega arith) in
        h.places o (omega arith) ∙ f (suc r) (suc o) (omega arith) (omega arith) (sym h.running ∙ on) ∙ sym (g.controllers o (omega arith)).length;
  }

  -- more than half run: a quorum does
  pub quorum_runs : n < 2 * count n (λ i. yes? (at t (suc i)).running) → majority n ≤ count (min n seats) s.running
  quorum_runs h =
      let m : min n seats ≡ n = omega (arith, few) in
      rw m ((majority_half n _).1 (omega (arith, count_ext n s.running (λ i. yes? (at t (suc i)).running) (λ i l. (g.controllers i l).running))))

-- Question 4's test passes exactly where the facts of `WellFormed` hold. Assumes nothing.
use mathlib.Core.Path.{◌≡◌, refl, sym, ap}
use mathlib.Core.Bool.{Bool, true, false, not, ◌&&◌, ◌||◌, beq}
use mathlib.Core.Logic.{inl, inr}
use Prim.Native.Nat.{ℕ, suc, ◌-◌, ◌≤◌, ◌<◌}
use native.Mathlib.Omega.{arith}
use native.Mathlib.Decide.{dec_lt}
use lib.Dec.{eqb, leb, ltb}
use borrow.Author.Tests.{ltb-true, ltb-false, leb-true, eqb-true, lt-ltb, le-ltb, le-leb, eq-eqb, ne_eqb, not-true}
use Rattle.lists.specs.Below.{all, distinct}
use Rattle.lists.proofs.Tests.{and_left, and_right, both, or_cases, or_left, or_right, implies_at, implies_of, not_both, not_both_of, contradiction, beq_eq, eq_beq}
use Rattle.lists.proofs.Below.{all-at, all_of, distinct-at, distinct_of}
use Rattle.model.specs.Tables.{seats, capacity, absent, yes?, at, message, slot_at, place, entry, held, mark, applied, highest, messages_of}
use Rattle.model.specs.Fair.{named, fair_amount, fair_class, fair_register, fair_date, known}
use Rattle.model.specs.WellFormed.{same_name, same_stamp, kept_write, good_mark, in_range, good_message, good_messages, good_writes, good_log, good_places, good_marks, good_buffer, good_highest, good_running, good_controller, well_formed}
use Rattle.model.specs.Facts.{in_log, greatest_applied, Among, GoodMark, GoodController, WellFormed}
use Rattle.model.specs.declared.Message.{Message}
use Rattle.model.specs.declared.Controller.{Controller}
use Rattle.model.specs.declared.Table.{Table}

-- NAMES OF CONTROLLERS

pub named-at : (t : Table) (c : ℕ) → named t.n c ≡ true → Among t.n c
unfolding named
named-at t c e = record { low = ltb-true 0 c (and_left _ _ e); high = leb-true c t.n (and_right (ltb 0 c) _ e) }

pub named_of : (t : Table) (c : ℕ) → Among t.n c → named t.n c ≡ true
unfolding named
named_of t c h = both (lt-ltb 0 c h.low) (le-leb c t.n h.high)

-- a test of every name is a loop from 0
pub all_named : (n : ℕ) (p : ℕ → Bool) → all n (λ i. p (suc i)) ≡ true → (c : ℕ) → Among n c → p c ≡ true
all_named n p e c h =
    let q : suc (c - 1) ≡ c = omega arith in
    rw q at (all-at n (λ i. p (suc i)) e (c - 1) (omega arith))

pub all-named_of : (n : ℕ) (p : ℕ → Bool) → ((c : ℕ) → Among n c → p c ≡ true) → all n (λ i. p (suc i)) ≡ true
all-named_of n p f = all_of n (λ i. p (suc i)) (λ i h. f (suc i) (omega arith))

-- what is distinct is the same only as itself
distinct-same : (n : ℕ) (same : ℕ → ℕ → Bool) → distinct n same ≡ true
    → (i j : ℕ) → i < n → j < n → same i j ≡ true → same j i ≡ true → i ≡ j
distinct-same n same e i j hi hj p q = go (dec_lt i j) (dec_lt j i)
  where
    go : Dec (i < j) → Dec (j < i) → i ≡ j
    go (yes l) d = contradiction q (distinct-at n same e j i hj l)
    go (no l) (yes k) = contradiction p (distinct-at n same e i j hi k)
    go (no l) (no k) = omega arith

-- THE FACTS OF THE TEST

mark_fact : (k : ℕ) → good_mark k ≡ true → GoodMark k
unfolding good_mark
mark_fact k e = elim (or_cases (eqb k absent) _ e) [
  | inl p ↦ inl (eqb-true k absent p)
  | inr p ↦ inr (ltb-true 0 k (and_left _ _ p), leb-true k 64 (and_right (ltb 0 k) _ p))
]

mark_test : (k : ℕ) → GoodMark k → good_mark k ≡ true
unfolding good_mark
mark_test k (inl p) = or_left _ (eq-eqb k absent p)
mark_test k (inr p) = or_right (eqb k absent) (both (lt-ltb 0 k p.0) (le-leb k 64 p.1))

module _ (t : Table) (i : ℕ) (c : Controller) where
  controller_facts : good_controller t.n (messages_of t) t.controllers i c ≡ true → GoodController t i c
  unfolding good_controller good_log good_places good_marks good_buffer good_highest good_running
  controller_facts e =
      let e₁ = and_right (good_log t.count c) _ e in
      let e₂ = and_right (good_places t.n t.controllers c) _ e₁ in
      let e₃ = and_right (good_marks t.n t.count c) _ e₂ in
      let e₄ = and_right (good_buffer t.count c) _ e₃ in
      let log = and_left (good_log t.count c) _ e in
      let entries = and_right (leb c.length capacity) _ log in
      let places = and_left (good_places t.n t.controllers c) _ e₁ in
      let marks = and_left (good_marks t.n t.count c) _ e₂ in
      let buffer = and_left (good_buffer t.count c) _ e₃ in
      let agrees = and_left (good_highest t.n (messages_of t) c) _ e₄ in
      let running = and_right (good_highest t.n (messages_of t) c) _ e₄ in
      record {
        log_room = leb-true c.length capacity (and_left (leb c.length capacity) _ log);
        log_run = λ k h. ltb-true (slot_at c k) t.count (all-at c.length _ (and_left _ _ entries) k h);
        log_once = λ j k hj hk p.
            distinct-same c.length _ (and_right (all c.length (λ k. ltb (slot_at c k) t.count)) _ entries) j k hj hk
            (eq-eqb (slot_at c j) (slot_at c k) p) (eq-eqb (slot_at c k) (slot_at c j) (sym p));
        places = λ o h. leb-true (place c o) (at t o).length (all_named t.n (λ o. leb (place c o) (at t o).length) places o h);
        marks = λ s f h p hf. mark_fact (mark (entry c.pending s) f) (all-at t.n _ (implies_at (held c s) _ (all-at t.count _ marks s h) p) f hf);
        apart = λ s h. not_both (held c s) (applied c s) (all-at t.count _ (and_left _ _ buffer) s h);
        outside = λ s h l.
            let w = elsewhere (ltb s t.count) _ (le-ltb s t.count l)
            (all-at capacity _ (and_right (all t.count (λ s. not (held c s && applied c s))) _ buffer) s h) in
            (not-true (held c s) (and_left _ _ w), not-true (applied c s) (and_right (not (held c s)) _ w));
        highest_is = λ x h. eqb-true (highest c x) (greatest_applied (messages_of t) c.applied x) (all_named t.n (λ x. eqb (highest c x) (greatest_applied (messages_of t) c.applied x)) agrees x h);
        exact = λ r s h. beq_eq (in_log c s) (held c s || applied c s) (all-at t.count _ (and_left _ _ (implies_at (yes? c.running) _ running r)) s h);
        long = λ r s h p.
            leb-true (message t s).number.0 c.length (implies_at (eqb (message t s).sender i) _
            (all-at t.count _ (and_right (all t.count (λ s. beq (in_log c s) (held c s || applied c s))) _ (implies_at (yes? c.running) _ running r)) s h)
            (eq-eqb (message t s).sender i p));
      }
    where
      elsewhere : (a b : Bool) → a ≡ false → (a || b) ≡ true → b ≡ true
      elsewhere true b p e = contradiction refl p
      elsewhere false b p e = e

  controller_tested : GoodController t i c → good_controller t.n (messages_of t) t.controllers i c ≡ true
  unfolding good_controller good_log good_places good_marks good_buffer good_highest good_running
  controller_tested g =
      both (both (le-leb c.length capacity g.log_room)
      (both (all_of c.length _ (λ k h. lt-ltb (slot_at c k) t.count (g.log_run k h)))
      (distinct_of c.length _ (λ j k hj l. ne_eqb (slot_at c j) (slot_at c k) (λ p. omega (arith, g.log_once j k hj (omega arith) p))))))
      (both (all-named_of t.n (λ o. leb (place c o) (at t o).length) (λ o h. le-leb (place c o) (at t o).length (g.places o h)))
      (both (all_of t.count _ (λ s h. implies_of (held c s) _ (λ p. all_of t.n _ (λ f hf. mark_test (mark (entry c.pending s) f) (g.marks s f h p hf)))))
      (both (both (all_of t.count _ (λ s h. not_both_of (held c s) (applied c s) (g.apart s h)))
      (all_of capacity _ (λ s h. or_of (ltb s t.count) _ (λ p.
      let w = g.outside s h (ltb-false s t.count p) in both (ap not w.0) (ap not w.1)))))
      (both (all-named_of t.n (λ x. eqb (highest c x) (greatest_applied (messages_of t) c.applied x)) (λ x h. eq-eqb (highest c x) (greatest_applied (messages_of t) c.applied x) (g.highest_is x h)))
      (implies_of (yes? c.running) _ (λ r.
      both (all_of t.count _ (λ s h. eq_beq (in_log c s) (held c s || applied c s) (g.exact r s h)))
      (all_of t.count _ (λ s h. implies_of (eqb (message t s).sender i) _ (λ p.
      le-leb (message t s).number.0 c.length (g.long r s h (eqb-true (message t s).sender i p)))))))))))
    where
      or_of : (a b : Bool) → (a ≡ false → b ≡ true) → (a || b) ≡ true
      or_of true b f = refl
      or_of false b f = f refl

same-name : (a b : Message) → a.sender ≡ b.sender → a.number.0 ≡ b.number.0 → same_name a b ≡ true
unfolding same_name
same-name a b p q = both (eq-eqb a.sender b.sender p) (eq-eqb a.number.0 b.number.0 q)

same_stamp_lem : (a b : Message) → a.payload.kind ≡ 6 → b.payload.kind ≡ 6 → a.sender ≡ b.sender → a.payload.reg ≡ b.payload.reg → a.date ≡ b.date
    → same_stamp a b ≡ true
unfolding same_stamp
same_stamp_lem a b k l p q r =
    both (eq-eqb a.payload.kind 6 k) (both (eq-eqb b.payload.kind 6 l)
    (both (eq-eqb a.sender b.sender p) (both (eq-eqb a.payload.reg b.payload.reg q) (eq-eqb a.date b.date r))))

message_facts : (t : Table) (m : Message) → good_message t.version t.n t.count m ≡ true
    → Among t.n m.sender × ((0 < m.number.0) × (m.number.0 ≤ 64)) × (fair_amount m.payload ≡ true) × (fair_class t.version m.payload ≡ true)
    × (fair_register m.payload ≡ true) × (fair_date t.count m ≡ true)
unfolding good_message
message_facts t m e =
    let e₁ = and_right (named t.n m.sender) _ e in
    let e₂ = and_right (ltb 0 m.number.0) _ e₁ in
    let e₃ = and_right (leb m.number.0 64) _ e₂ in
    let e₄ = and_right (fair_amount m.payload) _ e₃ in
    let e₅ = and_right (fair_class t.version m.payload) _ e₄ in (
      named-at t m.sender (and_left _ _ e),
      (ltb-true 0 m.number.0 (and_left _ _ e₁), leb-true m.number.0 64 (and_left _ _ e₂)),
      and_left _ _ e₃,
      and_left _ _ e₄,
      and_left _ _ e₅,
      and_right (fair_register m.payload) _ e₅,
    )

pub facts : (t : Table) → well_formed t ≡ true → WellFormed t
unfolding well_formed in_range good_messages good_writes kept_write
facts t e =
    let range = and_left (in_range t) _ e in
    let e₁ = and_right (in_range t) _ e in
    let messages = and_left (good_messages t.version t.n (messages_of t)) _ e₁ in
    let e₂ = and_right (good_messages t.version t.n (messages_of t)) _ e₁ in
    let writes = and_left (good_writes t) _ e₂ in
    let some-few = and_right (known t.version) _ range in
    let few-counted = and_right (ltb 0 t.n) _ some-few in
    let each : (s : ℕ) → s < t.count → good_message t.version t.n t.count (message t s) ≡ true = all-at t.count _ (and_right (distinct t.count (λ i j. same_name (message t i) (message t j))) _ messages) in
    record {
      version = and_left _ _ range;
      some = ltb-true 0 t.n (and_left (ltb 0 t.n) _ some-few);
      few = leb-true t.n seats (and_left _ _ few-counted);
      fitting = leb-true t.count capacity (and_right (leb t.n seats) _ few-counted);
      names = λ i j hi hj p q.
          distinct-same t.count _ (and_left _ _ messages) i j hi hj (same-name (message t i) (message t j) p q) (same-name (message t j) (message t i) (sym p) (sym q));
      senders = λ s h. (message_facts t (message t s) (each s h)).0;
      numbers = λ s h. (message_facts t (message t s) (each s h)).1;
      amounts = λ s h. (message_facts t (message t s) (each s h)).2;
      classes = λ s h. (message_facts t (message t s) (each s h)).3;
      registers = λ s h. (message_facts t (message t s) (each s h)).4;
      dates = λ s h. (message_facts t (message t s) (each s h)).5;
      stamps = λ i j hi hj k l p q r.
          distinct-same t.count _ (and_left _ _ writes) i j hi hj
          (same_stamp_lem (message t i) (message t j) k l p q r) (same_stamp_lem (message t j) (message t i) l k (sym p) (sym q) (sym r));
      kept = λ s h k r.
          implies_at (yes? (at t (message t s).sender).running) _
          (implies_at (eqb (message t s).payload.kind 6) _
          (all-at t.count (kept_write t) (and_right (distinct t.count (λ i j. same_stamp (message t i) (message t j))) _ writes) s h)
          (eq-eqb (message t s).payload.kind 6 k)) r;
      controllers = λ c h. controller_facts t c (at t c) (all_named t.n (λ i. good_controller t.n (messages_of t) t.controllers i (at t i)) (and_right (good_writes t) _ e₂) c h);
    }

pub tested : (t : Table) → WellFormed t → well_formed t ≡ true
unfolding well_formed in_range good_messages good_message same_name good_writes same_stamp kept_write
tested t w =
    both (both w.version (both (lt-ltb 0 t.n w.some) (both (le-leb t.n seats w.few) (le-leb t.count capacity w.fitting))))
    (both (both (distinct_of t.count _ (λ i j hi l. not-true (same_name (message t i) (message t j))
    (not_both_of (eqb (message t i).sender (message t j).sender) _ (λ p q.
    omega (arith, w.names i j hi (omega arith) (eqb-true _ _ p) (eqb-true _ _ q))))))
    (all_of t.count _ (λ s h.
    both (named_of t (message t s).sender (w.senders s h))
    (both (lt-ltb 0 (message t s).number.0 (w.numbers s h).0)
    (both (le-leb (message t s).number.0 64 (w.numbers s h).1) (both (w.amounts s h) (both (w.classes s h) (both (w.registers s h) (w.dates s h)))))))))
    (both (both (distinct_of t.count _ (λ i j hi l. not-true (same_stamp (message t i) (message t j))
    (not_both_of (eqb (message t i).payload.kind 6) _ (λ k e.
    let e₁ = and_right (eqb (message t j).payload.kind 6) _ e in
    let e₂ = and_right (eqb (message t i).sender (message t j).sender) _ e₁ in
    omega (
      arith,
      w.stamps i j hi (omega arith) (eqb-true _ _ k) (eqb-true _ _ (and_left _ _ e)) (eqb-true _ _ (and_left _ _ e₁))
          (eqb-true _ _ (and_left _ _ e₂)) (eqb-true _ _ (and_right (eqb (message t i).payload.reg (message t j).payload.reg) _ e₂)),
    )))))
    (all_of t.count _ (λ s h. implies_of (eqb (message t s).payload.kind 6) _ (λ k.
    implies_of (yes? (at t (message t s).sender).running) _ (λ r. w.kept s h (eqb-true _ _ k) r)))))
    (all-named_of t.n (λ i. good_controller t.n (messages_of t) t.controllers i (at t i)) (λ c h. controller_tested t c (at t c) (w.controllers c h)))))

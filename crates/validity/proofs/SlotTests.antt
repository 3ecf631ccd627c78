-- The tests of all slots, from the flags of what is pending, applied and logged, are the clauses of the
-- well-formed test on marks and buffers and on what a running controller's log names. Assumes nothing.
use mathlib.Core.Path.{◌≡◌, refl, sym, ap}
use mathlib.Core.Bool.{Bool, true, false, not, ◌&&◌, ◌||◌, beq}
use Prim.Native.Nat.{ℕ, ◌≤◌, ◌<◌}
use native.Mathlib.Omega.{arith}
use native.Mathlib.Decide.{dec_lt}
use lib.Dec.{eqb, ltb}
use borrow.Author.Tests.{lt-ltb, le-ltb, ne_eqb, not-true}
use Rattle.lists.specs.Below.{all}
use Rattle.lists.proofs.Tests.{and_left, and_right, both, or_left, or_right, or-false, implies_at, implies_of, contradiction, bool_eq, beq_eq, eq_beq}
use Rattle.lists.proofs.Below.{all-at, all_of}
use Rattle.lists.proofs.Clipped.{any_none}
use Rattle.model.specs.Tables.{yes?, slot_at, entry, held, applied, capacity}
use Rattle.model.specs.Facts.{in_log}
use Rattle.model.specs.WellFormed.{good_marks, good_buffer}
use Rattle.model.specs.declared.Controller.{Controller}
use Rattle.validity.specs.Flags.{good_entry, good_slot}

elsewhere : (a b : Bool) → a ≡ false → (a || b) ≡ true → b ≡ true
elsewhere true b p e = contradiction refl p
elsewhere false b p e = e

neither : (a b : Bool) → (not a && not b) ≡ true → (a ≡ false) × (b ≡ false)
neither a b e = (not-true a (and_left _ _ e), not-true b (and_right (not a) _ e))

module _ (n k : ℕ) (c : Controller) (fits : k ≤ capacity) (in_run : (j : ℕ) → j < c.length → slot_at c j < k) where
  abbrev pub slot : ℕ → Bool
  slot s = good_slot (ltb s k) (yes? c.running) (held c s) (applied c s) (in_log c s)

  abbrev pub exact : Bool
  exact = not (yes? c.running) || all k (λ s. beq (in_log c s) (held c s || applied c s))

  -- what both say
  record Facts : Type 0 where
    marks : (s : ℕ) → s < k → good_entry n (entry c.pending s) ≡ true
    apart : (s : ℕ) → s < k → not (held c s && applied c s) ≡ true
    outside : (s : ℕ) → s < capacity → k ≤ s → (held c s ≡ false) × (applied c s ≡ false)
    exactly : yes? c.running ≡ true → (s : ℕ) → s < k → in_log c s ≡ (held c s || applied c s)

  -- the log names nothing outside the run
  not_logged : (s : ℕ) → k ≤ s → in_log c s ≡ false
  unfolding in_log
  not_logged s h = sym (any_none c.length (λ j. eqb (slot_at c j) s) (λ j l. ne_eqb (slot_at c j) s (λ e. omega (arith, in_run j l))))

  of_slots : all capacity (λ s. good_entry n (entry c.pending s)) ≡ true → all capacity slot ≡ true → Facts
  unfolding good_slot
  of_slots a b = record {
    marks = λ s h. all-at capacity _ a s (omega arith);
    apart = λ s h. and_left _ _ (at s (omega arith));
    outside = λ s h l. or-false (held c s) (applied c s) (not-true _ (elsewhere (ltb s k) _ (le-ltb s k l) (and_left _ _ (rest s h))));
    exactly = λ q s h. beq_eq _ _ (implies_at (yes? c.running) _ (and_right (ltb s k || not (held c s || applied c s)) _ (rest s (omega arith))) q);
  }
    where
      at : (s : ℕ) → s < capacity → slot s ≡ true
      at s h = all-at capacity slot b s h

      rest : (s : ℕ) → s < capacity
          → ((ltb s k || not (held c s || applied c s)) && (not (yes? c.running) || beq (in_log c s) (held c s || applied c s))) ≡ true
      rest s h = and_right (not (held c s && applied c s)) _ (at s h)

  to_slots : Facts → (all capacity (λ s. good_entry n (entry c.pending s)) && all capacity slot) ≡ true
  unfolding good_slot good_entry
  to_slots f = both (all_of capacity _ (λ s h. marked s h (dec_lt s k))) (all_of capacity slot (λ s h. good s h (dec_lt s k)))
    where
      marked : (s : ℕ) → s < capacity → Dec (s < k) → good_entry n (entry c.pending s) ≡ true
      marked s h (yes l) = f.marks s l
      marked s h (no l) = rw (f.outside s h (omega arith)).0

      good : (s : ℕ) → s < capacity → Dec (s < k) → slot s ≡ true
      good s h (yes l) = both (f.apart s l) (both (or_left _ (lt-ltb s k l)) (implies_of (yes? c.running) _ (λ q. eq_beq _ _ (f.exactly q s l))))
      good s h (no l) = rw ((f.outside s h (omega arith)).0, (f.outside s h (omega arith)).1, not_logged s (omega arith), le-ltb s k (omega arith)) (or_right (not (yes? c.running)) refl)

  of_clauses : (good_marks n k c && (good_buffer k c && exact)) ≡ true → Facts
  unfolding good_marks good_buffer good_entry
  of_clauses e = record {
    marks = all-at k _ (and_left _ _ e);
    apart = all-at k _ (and_left _ _ buffer);
    outside = λ s h l. neither (held c s) (applied c s) (elsewhere (ltb s k) _ (le-ltb s k l) (all-at capacity _ (and_right (all k (λ s. not (held c s && applied c s))) _ buffer) s h));
    exactly = λ q s h. beq_eq _ _ (all-at k _ (implies_at (yes? c.running) _ (and_right (good_buffer k c) _ (and_right (good_marks n k c) _ e)) q) s h);
  }
    where
      buffer : good_buffer k c ≡ true
      buffer = and_left _ _ (and_right (good_marks n k c) _ e)

  to_clauses : Facts → (good_marks n k c && (good_buffer k c && exact)) ≡ true
  unfolding good_marks good_buffer good_entry
  to_clauses f =
      both (all_of k _ f.marks)
      (both (both (all_of k _ f.apart) (all_of capacity _ (λ s h. beyond s h (dec_lt s k))))
      (implies_of (yes? c.running) _ (λ q. all_of k _ (λ s h. eq_beq _ _ (f.exactly q s h)))))
    where
      beyond : (s : ℕ) → s < capacity → Dec (s < k) → (ltb s k || (not (held c s) && not (applied c s))) ≡ true
      beyond s h (yes l) = or_left _ (lt-ltb s k l)
      beyond s h (no l) = let o = f.outside s h (omega arith) in or_right (ltb s k) (both (ap not o.0) (ap not o.1))

  pub slots_are : (all capacity (λ s. good_entry n (entry c.pending s)) && all capacity slot) ≡ (good_marks n k c && (good_buffer k c && exact))
  slots_are =
      bool_eq _ _
      (λ e. to_clauses (of_slots (and_left _ _ e) (and_right (all capacity (λ s. good_entry n (entry c.pending s))) _ e)))
      (λ e. to_slots (of_clauses e))

-- The set of slots that a controller applies is, by codes, the largest set of the abstract system. Assumes nothing.
use mathlib.Core.Path.{◌≡◌, refl, sym, ◌∙◌}
use mathlib.Core.Bool.{Bool, true, false, ◌&&◌}
use Prim.Native.Nat.{ℕ, min, ◌≤◌, ◌<◌}
use native.Mathlib.Omega.{arith}
use native.Mathlib.Decide.{dec_lt}
use lib.Dec.{eqb, ltb}
use borrow.Author.Tests.{ltb-true, leb-true, eqb-true, lt-ltb, le-leb, eq-eqb}
use Rattle.lists.specs.Below.{count}
use Rattle.lists.specs.Build.{tabulate}
use Rattle.lists.proofs.Tests.{and_left, and_right, both, bool_eq, contradiction}
use Rattle.lists.proofs.Below.{count-found, count_pos}
use Rattle.lists.proofs.Build.{get_d_tabulate}
use Rattle.model.specs.Tables.{seats, capacity, absent, in_buffer, held}
use Rattle.model.specs.Delivery.{Slots, has, majority, mark_count, goes_before}
use Rattle.model.specs.Rounds.{applicable}
use Rattle.model.specs.declared.Controller.{Controller}
use Rattle.model.specs.declared.Table.{Table}
use Rattle.model.specs.Facts.{WellFormed}
use Rattle.model.specs.Largest.{Closed as ClosedSlots, candidate, precedes}
use Rattle.model.proofs.Largest.{applicable-largest, applicable-held}
use Rattle.broadcast.specs.State.{State}
use Rattle.broadcast.specs.Delivery.{Largest}
use Rattle.broadcast.proofs.Slots.{Slot, Agrees, SlotClosed, SlotLargest, largest_names}
use Rattle.consistency.proofs.Bridge.{system, code_at, marks_of}
use Rattle.consistency.proofs.BridgeFacts.{codes_differ}

-- CODES OF A SET OF SLOTS

-- m is the code of a slot of S
unfoldable pub code_in_set : Table → Slots → ℕ → Bool
code_in_set t S m = ltb 0 (count t.count (λ j. eqb (code_at t j) m && has S j))

module _ (t : Table) (S : Slots) where
  pub in_set_slot : (m : ℕ) → code_in_set t S m ≡ true → Slot t.count (code_at t) m
  unfolding code_in_set
  in_set_slot m e =
      let f = count-found t.count (λ j. eqb (code_at t j) m && has S j) (ltb-true 0 _ e) in
      record { slot = f.which; below = f.below; is = eqb-true (code_at t f.which) m (and_left _ _ f.passes) }

  pub in_set-at : WellFormed t → (j : ℕ) → j < t.count → code_in_set t S (code_at t j) ≡ has S j
  unfolding code_in_set
  in_set-at w j h = bool_eq _ _ member
      (λ e. lt-ltb 0 _ (count_pos t.count (λ i. eqb (code_at t i) (code_at t j) && has S i) j h (both (eq-eqb (code_at t j) (code_at t j) refl) e)))
    where
      member : ltb 0 (count t.count (λ i. eqb (code_at t i) (code_at t j) && has S i)) ≡ true → has S j ≡ true
      member e =
          let f = count-found t.count (λ i. eqb (code_at t i) (code_at t j) && has S i) (ltb-true 0 _ e) in
          let q = codes_differ t w f.which j f.below h (eqb-true (code_at t f.which) (code_at t j) (and_left _ _ f.passes)) in
          rw q at (and_right (eqb (code_at t f.which) (code_at t j)) _ f.passes)

-- THE SET APPLIED

module _ (n : ℕ) (slots : ℕ) (name : ℕ → ℕ) (c : Controller) (fitting : slots ≤ capacity)
    (outside : (j : ℕ) → j < capacity → slots ≤ j → held c j ≡ false) where
  abbrev S : Slots
  S = applicable n c.pending

  -- the slots of the run that are in the set
  unfoldable chosen : ℕ → Bool
  chosen j = ltb j slots && has S j

  chosen_at : (j : ℕ) → chosen j ≡ true → (j < slots) × (has S j ≡ true)
  unfolding chosen
  chosen_at j e = (ltb-true j slots (and_left _ _ e), and_right (ltb j slots) _ e)

  chosen_is : (j : ℕ) → j < slots → has S j ≡ chosen j
  unfolding chosen
  chosen_is j h = rw (lt-ltb j slots h) refl

  held_run : (j : ℕ) → j < capacity → held c j ≡ true → j < slots
  held_run j h e = go (dec_lt j slots)
    where
      go : Dec (j < slots) → j < slots
      go (yes p) = p
      go (no p) = contradiction e (outside j h (omega arith))

  chosen_closed : SlotClosed (system n) slots name (held c) (marks_of c) chosen
  unfolding mark_count goes_before
  chosen_closed = let w = (applicable-largest n c.pending).closed in record {
    pending = λ x e. let p = chosen_at x e in (p.0, applicable-held n c.pending x (omega arith) p.1);
    marks = λ x e. let p = chosen_at x e in
        leb-true (majority n) (count (min n seats) (λ f. ltb (marks_of c x f) absent)) (and_right (held c x) _ (w.chosen x (omega arith) p.1));
    before = λ x y e p d. let q = chosen_at x e in
        leb-true (majority n) (count (min n seats) (λ f. ltb (marks_of c x f) (marks_of c y f)))
        (w.first x y (omega arith) (omega arith) q.1 p.1 (chosen_is y p.0 ∙ d));
  }

  module _ (u : ℕ → Bool) (w : SlotClosed (system n) slots name (held c) (marks_of c) u) where
    abbrev R : Slots
    R = tabulate capacity u

    in_run : (j : ℕ) → j < capacity → has R j ≡ u j
    in_run j h = get_d_tabulate capacity u false j h

    listed_closed : ClosedSlots capacity (in_buffer c.pending) (candidate n c.pending) (precedes n c.pending) R
    unfolding mark_count goes_before
    listed_closed = record {
      chosen = λ x h e. let p = sym (in_run x h) ∙ e in
          both (w.pending x p).1 (le-leb (majority n) (count (min n seats) (λ f. ltb (marks_of c x f) absent)) (w.marks x p));
      first = λ x y hx hy e p d.
          le-leb (majority n) (count (min n seats) (λ f. ltb (marks_of c x f) (marks_of c y f)))
          (w.before x y (sym (in_run x hx) ∙ e) (held_run y hy p, p) (sym (in_run y hy) ∙ d));
    }

    contained : (j : ℕ) → u j ≡ true → chosen j ≡ true
    contained j e =
        let l = (w.pending j e).0 in
        sym (chosen_is j l) ∙ (applicable-largest n c.pending).contains R listed_closed j (omega arith) (in_run j (omega arith) ∙ e)

  chosen_largest : SlotLargest (system n) slots name (held c) (marks_of c) chosen
  chosen_largest = record { closed = chosen_closed; largest = λ u w. record { each = contained u w } }

  pub applicable-names : (s : State) (i : ℕ) → Agrees (system n) slots name (held c) (marks_of c) s i
      → (m : ℕ → Bool) → ((j : ℕ) → j < slots → m (name j) ≡ has S j) → ((x : ℕ) → m x ≡ true → Slot slots name x)
      → Largest (system n) s i m
  applicable-names s i a m same only =
      largest_names (system n) slots name (held c) (marks_of c) s i a chosen m chosen_largest (λ j h. same j h ∙ chosen_is j h) only

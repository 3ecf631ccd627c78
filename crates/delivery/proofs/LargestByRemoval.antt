-- Line 16: what its loops keep, and why they end in the set applied: what is left at the end is closed, and contains every closed set.
-- Assumes nothing.
use mathlib.Core.Path.{◌≡◌, refl, sym, ap, ◌∙◌}
use mathlib.Core.Logic.{◌≢◌}
use mathlib.Core.Bool.{Bool, true, false, ◌&&◌}
use mathlib.Core.List.{List}
use Prim.Native.Nat.{ℕ, ◌+◌, ◌-◌, ◌≤◌, ◌<◌}
use native.Mathlib.Nat.{not-suc-le-zero}
use native.Mathlib.Decide.{ℕ_discrete}
use native.Mathlib.Omega.{arith}
use borrow.Author.Tests.{ltb-true, ltb-false, lt-ltb, eqb-true, ne_eqb}
use lib.ListN.{length, set, length-set}
use lib.Seq.{get_or-set_same, get_or-set_other}
use lib.Dec.{eqb, ltb}
use Rattle.lists.specs.Below.{tally}
use Rattle.lists.proofs.Tests.{and_left, and_right, contradiction, refuted}
use Rattle.lists.proofs.Below.{Found, tally-plus}
use Rattle.lists.proofs.Build.{length-tabulate, get_d_tabulate}
use Rattle.model.specs.Tables.{capacity, scratch_size, in_buffer}
use Rattle.model.specs.Delivery.{Slots, has}
use Rattle.model.specs.Largest.{Closed, candidate, precedes}
use Rattle.model.proofs.Largest.{applicable_unique}
use Rattle.model.specs.declared.Pending.{Pending}
use Rattle.delivery.specs.Apply.{Settled, front, back, times, named}
use Rattle.delivery.proofs.Times.{times-at, times-found, times_ext, moved}
use Rattle.delivery.proofs.Division.{stored_back}

-- TALLIES

tally_yes : (b : Bool) → 0 < tally b 0 → b ≡ true
tally_yes true h = refl
tally_yes false h = absurd (not-suc-le-zero h)

tally_one : (b : Bool) → tally b 0 ≤ 1
tally_one true = omega arith
tally_one false = omega arith

module _ (n : ℕ) (P : List Pending) where
  abbrev IsClosed : Slots → Type 0
  IsClosed = Closed capacity (in_buffer P) (candidate n P) (precedes n P)

  -- c members and o others; d of the others are taken, and the members at the first i places were compared with the next of them
  pub record Removing (m : List ℕ) (c o d i : ℕ) : Type 0 where
    pub size : length m ≡ scratch_size
    pub few : c + o ≤ capacity
    -- each slot in the buffer is named once
    pub once : (t : ℕ) → times (front m) c t + times (back m) o t ≡ tally (ltb t capacity && in_buffer P t) 0
    -- the members are candidates
    pub fit : (t : ℕ) → 0 < times (front m) c t → candidate n P t ≡ true
    -- every member left goes before every other that is taken so far
    pub before : (j k : ℕ) → j < c → k < d → precedes n P (front m j) (back m k) ≡ true
    pub here : (j : ℕ) → j < i → precedes n P (front m j) (back m d) ≡ true
    -- every closed set is contained in the members left
    pub contains : (R : Slots) → IsClosed R → (t : ℕ) → t < capacity → has R t ≡ true → 0 < times (front m) c t

  -- THE START

  module _ (m : List ℕ) (c o d i : ℕ) (v : Removing m c o d i) where
    -- what is named is a slot in the buffer
    named_in : (t : ℕ) → 0 < times (front m) c t + times (back m) o t → (t < capacity) × (in_buffer P t ≡ true)
    named_in t h =
        let e = tally_yes (ltb t capacity && in_buffer P t) (rw (v.once t) at h) in
        (ltb-true t capacity (and_left _ _ e), and_right (ltb t capacity) _ e)

    pub member_below : (j : ℕ) → j < c → front m j < capacity
    member_below j h = (named_in (front m j) (omega (arith, times-at (front m) c j h))).0

    other_in : (k : ℕ) → k < o → (back m k < capacity) × (in_buffer P (back m k) ≡ true)
    other_in k h = named_in (back m k) (omega (arith, times-at (back m) o k h))

    pub other_below : (k : ℕ) → k < o → back m k < capacity
    other_below k h = (other_in k h).0

    -- one of the others is no member
    other_out : (k : ℕ) → k < o → times (front m) c (back m k) ≡ 0
    other_out k h = omega (arith, times-at (back m) o k h, v.once (back m k), tally_one (ltb (back m k) capacity && in_buffer P (back m k)))

    -- A MEMBER GOES BEFORE THE ONE TAKEN

    -- ALL DO

    -- ONE DOES NOT: it gives its place to the last member, and joins the others

    module _ (h : d < o) (l : i < c) where
      abbrev removed : List ℕ
      removed = set (set m i (front m (c - 1))) (scratch_size - (o + 1)) (front m i)

      front_kept : (j : ℕ) → j < c - 1 → j ≢ i → front removed j ≡ front m j
      front_kept j a q =
          get_or-set_other (set m i (front m (c - 1))) (scratch_size - (o + 1)) j (front m i) 0 (omega (arith, v.few))
          ∙ get_or-set_other m i j (front m (c - 1)) 0 q

      front_last : i < c - 1 → front removed i ≡ front m (c - 1)
      front_last a =
          get_or-set_other (set m i (front m (c - 1))) (scratch_size - (o + 1)) i (front m i) 0 (omega (arith, v.few))
          ∙ get_or-set_same m i (front m (c - 1)) 0 (omega (arith, v.few))

      back_before : (k : ℕ) → k < o → back (set m i (front m (c - 1))) k ≡ back m k
      back_before k a = get_or-set_other m i (scratch_size - 1 - k) (front m (c - 1)) 0 (omega (arith, v.few))

      back_kept : (k : ℕ) → k < o → back removed k ≡ back m k
      back_kept k a =
          get_or-set_other (set m i (front m (c - 1))) (scratch_size - (o + 1)) (scratch_size - 1 - k) (front m i) 0 (omega (arith, v.few))
          ∙ back_before k a

      fewer : (t : ℕ) → tally (eqb (front m i) t) (times (front removed) (c - 1) t) ≡ times (front m) c t
      fewer t =
          let e : c - 1 + 1 ≡ c = omega arith in
          moved (front m) (front removed) i t (c - 1) (omega arith) front_kept front_last ∙ ap (λ k. times (front m) k t) e

      more : (t : ℕ) → times (back removed) (o + 1) t ≡ tally (eqb (front m i) t) (times (back m) o t)
      more t =
          stored_back (set m i (front m (c - 1))) o (front m i) t (omega (arith, v.few)) (omega (arith, v.size, length-set m i (front m (c - 1))))
          ∙ ap (tally (eqb (front m i) t)) (times_ext (back (set m i (front m (c - 1)))) (back m) o t back_before)

      -- no closed set has it
      barred : precedes n P (front m i) (back m d) ≡ false → (R : Slots) → IsClosed R → has R (front m i) ≡ true → ⊥
      barred e R r q =
          contradiction
          (r.first (front m i) (back m d) (member_below i l) (other_below d h) q (other_in d h).1
          (refuted (has R (back m d)) (λ y. omega (arith, v.contains R r (back m d) (other_below d h) y, other_out d h))))
          e

      pub removing_remove : precedes n P (front m i) (back m d) ≡ false → Removing removed (c - 1) (o + 1) d i
      removing_remove e = record {
        size = length-set (set m i (front m (c - 1))) (scratch_size - (o + 1)) (front m i) ∙ length-set m i (front m (c - 1)) ∙ v.size;
        few = omega (arith, v.few);
        once = λ t.
            let b = eqb (front m i) t in
            omega (arith, more t, fewer t, v.once t, tally-plus b (times (front removed) (c - 1) t), tally-plus b (times (back m) o t));
        fit = λ t a. v.fit t (omega (arith, fewer t, tally-plus (eqb (front m i) t) (times (front removed) (c - 1) t)));
        before = λ j k a b. rw (back_kept k (omega arith))
            (elim (ℕ_discrete j i) [
              | yes p ↦ rw (p, front_last (omega arith)) (v.before (c - 1) k (omega arith) b)
              | no q ↦ rw (front_kept j a q) (v.before j k (omega arith) b)
            ]);
        here = λ j a. rw (back_kept d h, front_kept j (omega arith) (omega arith)) (v.here j a);
        contains = λ R r t a q. go R r t q (ℕ_discrete (front m i) t) (v.contains R r t a q);
      }
        where
          go : (R : Slots) → IsClosed R → (t : ℕ) → has R t ≡ true → Dec (front m i ≡ t) → 0 < times (front m) c t → 0 < times (front removed) (c - 1) t
          go R r t q (yes p) x = absurd (barred e R r (rw p q))
          go R r t q (no w) x = rw (← fewer t, ne_eqb (front m i) t w) at x

    -- ALL ARE TAKEN

    pub removing_end : o ≤ d → Settled n P m c
    unfolding named
    removing_end h = record {
      listed = record { few = omega (arith, v.size, v.few); below = member_below };
      set = applicable_unique n P (named c m) (record {
        size = length-tabulate capacity _;
        closed = record {
          chosen = λ s a p. let q = is_member s a p in rw ((named_in s (omega (arith, q))).1, v.fit s q) refl;
          first = λ s t a b p q r. pair s t (times-found (front m) c s (is_member s a p)) (times-found (back m) o t (is_other t b q r));
        };
        contains = λ R r t a e. got t a ∙ lt-ltb 0 (times (front m) c t) (v.contains R r t a e);
      });
    }
      where
        got : (t : ℕ) → t < capacity → has (named c m) t ≡ ltb 0 (times (front m) c t)
        got t a = get_d_tabulate capacity (λ t. ltb 0 (times (front m) c t)) false t a

        is_member : (t : ℕ) → t < capacity → has (named c m) t ≡ true → 0 < times (front m) c t
        is_member t a p = ltb-true 0 (times (front m) c t) (sym (got t a) ∙ p)

        is_other : (t : ℕ) → t < capacity → in_buffer P t ≡ true → has (named c m) t ≡ false → 0 < times (back m) o t
        is_other t a q p =
            let none = ltb-false 0 (times (front m) c t) (sym (got t a) ∙ p) in
            let one : tally (ltb t capacity && in_buffer P t) 0 ≡ 1 = rw (lt-ltb t capacity a, q) refl in
            omega (arith, v.once t, none, one)

        pair : (s t : ℕ) → Found c (λ j. eqb (front m j) s) → Found o (λ k. eqb (back m k) t) → precedes n P s t ≡ true
        pair s t x y =
            rw (← eqb-true (front m x.which) s x.passes, ← eqb-true (back m y.which) t y.passes)
            (v.before x.which y.which x.below (omega (arith, y.below)))

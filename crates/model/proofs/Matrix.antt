-- The 4,096-byte way gives the set applied, for every n and every buffer: so for every controller of every table, well formed or not.
-- Assumes nothing.
use mathlib.Core.Path.{◌≡◌, refl, sym}
use mathlib.Core.Bool.{Bool, true, false, cond}
use mathlib.Core.List.{List}
use Prim.Native.Nat.{ℕ, ◌+◌, ◌*◌, ◌/◌, ◌%◌, ◌<◌}
use native.Mathlib.Omega.{arith}
use Rattle.lists.proofs.Build.{get_d_tabulate}
use Rattle.model.specs.Tables.{capacity, in_buffer, yes?, flagged}
use Rattle.model.specs.Delivery.{Slots}
use Rattle.model.specs.Rounds.{applicable}
use Rattle.model.specs.Largest.{Closed, Largest, candidate, precedes}
use Rattle.model.specs.Matrix.{matrix, by_matrix}
use Rattle.model.specs.declared.Pending.{Pending}
use Rattle.model.proofs.Largest.{largest_is, applicable_unique}

-- a largest set by one relation is one by another that is the same between slots
same-largest : (N : ℕ) (held fit : ℕ → Bool) (b d : ℕ → ℕ → Bool) → ((s t : ℕ) → s < N → t < N → b s t ≡ d s t) → (S : Slots)
    → Largest N held fit b S → Largest N held fit d S
same-largest N held fit b d e S l = record {
  size = l.size;
  closed = other b d e S l.closed;
  contains = λ R c. l.contains R (other d b (λ s t hs ht. sym (e s t hs ht)) R c);
}
  where
    other : (x y : ℕ → ℕ → Bool) → ((s t : ℕ) → s < N → t < N → x s t ≡ y s t) → (R : Slots) → Closed N held fit x R → Closed N held fit y R
    other x y q R c = record { chosen = c.chosen; first = λ s t hs ht m h o. rw (← q s t hs ht) (c.first s t hs ht m h o) }

module _ (n : ℕ) (P : List Pending) where
  -- the flag of s and t
  flag_is : (s t : ℕ) → s < capacity → t < capacity → flagged (matrix n P) (s * capacity + t) ≡ precedes n P s t
  unfolding matrix
  flag_is s t hs ht =
      let row : (s * capacity + t) / capacity ≡ s = omega arith in
      let column : (s * capacity + t) % capacity ≡ t = omega arith in
      let flags : ℕ → ℕ = λ k. cond (precedes n P (k / capacity) (k % capacity)) 1 0 in
      rw (get_d_tabulate (capacity * capacity) flags 0 (s * capacity + t) (omega arith), row, column)
      (told (precedes n P s t))
    where
      told : (b : Bool) → yes? (cond b 1 0) ≡ b
      told true = refl
      told false = refl

  pub matrix_agrees : by_matrix n P ≡ applicable n P
  unfolding by_matrix
  matrix_agrees =
      applicable_unique n P (by_matrix n P)
      (same-largest capacity (in_buffer P) (candidate n P) (λ s t. flagged (matrix n P) (s * capacity + t)) (precedes n P) flag_is _
      (largest_is capacity (in_buffer P) (candidate n P) (λ s t. flagged (matrix n P) (s * capacity + t))))

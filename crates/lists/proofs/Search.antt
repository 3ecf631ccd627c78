-- Searching the numbers below a bound for one that passes two tests; tests that pass more than n times together meet. Assumes nothing.
use mathlib.Core.Path.{◌≡◌, ap}
use mathlib.Core.Bool.{Bool, true, not, ◌&&◌}
use mathlib.Core.Logic.{◌⊎◌, inl, inr}
use Prim.Native.Nat.{ℕ, zero, suc, ◌+◌, ◌≤◌, ◌<◌}
use native.Mathlib.Omega.{arith}
use native.Mathlib.Decide.{ℕ_discrete, dec_lt}
use lib.Dec.{eqb}
use borrow.Author.Tests.{eq-eqb, ne_eqb}
use Rattle.lists.specs.Below.{tally, count}
use Rattle.lists.proofs.Tests.{and_left, and_right, both, by_contradiction}
use Rattle.lists.proofs.Below.{Apart, count-found, count_pos, count_none, count_le, apart_count}

-- a number below n that passes both tests
pub record Meeting (n : ℕ) (p q : ℕ → Bool) : Type 0 where
  pub which : ℕ
  pub below : which < n
  pub first : p which ≡ true
  pub second : q which ≡ true

pub meet_or_apart : (n : ℕ) (p q : ℕ → Bool) → Meeting n p q ⊎ Apart n p q
meet_or_apart n p q = elim (dec_lt 0 (count n (λ k. p k && q k))) [
  | yes h ↦
      let o = count-found n (λ k. p k && q k) h in
      let j = o.which in
      inl (record { which = j; below = o.below; first = and_left (p j) (q j) o.passes; second = and_right (p j) (q j) o.passes })
  | no h ↦ inr (λ k l a b. h (count_pos n (λ k. p k && q k) k l (both a b)))
]

pub meet : (n : ℕ) (p q : ℕ → Bool) → n < count n p + count n q → Meeting n p q
meet n p q h = elim (meet_or_apart n p q) [ inl o ↦ o | inr d ↦ absurd (omega (arith, apart_count n p q d)) ]

count_one : (n i : ℕ) → count n (λ k. eqb k i) ≤ 1
unfolding count
count_one zero i = omega arith
count_one (suc n) i = go (ℕ_discrete n i) (count_one n i)
  where
    go : Dec (n ≡ i) → count n (λ k. eqb k i) ≤ 1 → tally (eqb n i) (count n (λ k. eqb k i)) ≤ 1
    go (yes e) h = rw (eq-eqb n i e, count_none n (λ k. eqb k i) (λ k l. ne_eqb k i (omega arith))) (omega arith)
    go (no d) h = rw (ne_eqb n i d) h

-- of two that pass, one is not i
pub another : (n : ℕ) (p : ℕ → Bool) (i : ℕ) → 1 < count n p → Meeting n p (λ k. not (eqb k i))
another n p i h = elim (meet_or_apart n p (λ k. not (eqb k i))) [
  | inl o ↦ o
  | inr d ↦ absurd (omega (arith, count_one n i, count_le n p (λ k. eqb k i) (λ k l e. by_contradiction (eqb k i) (λ a. d k l e (ap not a)))))
]

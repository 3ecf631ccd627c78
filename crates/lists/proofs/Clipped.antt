-- What a loop gives that runs only as far as an array reaches, where nothing counts past its end. Assumes nothing.
use mathlib.Core.Path.{◌≡◌, refl, sym, ◌∙◌}
use mathlib.Core.Bool.{Bool, true, false, false≢true}
use Prim.Native.Nat.{ℕ, zero, suc, ◌+◌, min, ◌≤◌, ◌<◌}
use native.Mathlib.Numerals.{add-one}
use native.Mathlib.Omega.{arith}
use native.Mathlib.Decide.{dec_lt}
use lib.Dec.{ltb}
use borrow.Author.Tests.{lt-ltb}
use Rattle.lists.specs.Below.{count, all, sum}
use Rattle.lists.proofs.Below.{count_pos, count_none, all-at}
use Rattle.lists.proofs.Tests.{refuted}

-- what holds as far as the loop runs, and of everything past the end, holds below n
pub below_past {ℓ} : (P : ℕ → Type ℓ) (n m end : ℕ) → end ≡ min n m → ((k : ℕ) → k < end → P k) → ((k : ℕ) → m ≤ k → P k) → (k : ℕ) → k < n → P k
below_past P n m end e f g k h = elim (dec_lt k m) [ yes l ↦ f k (omega arith) | no l ↦ g k (omega arith) ]

-- A SEARCH

pub any_found : (n : ℕ) (p : ℕ → Bool) (k : ℕ) → k < n → p k ≡ true → true ≡ ltb 0 (count n p)
any_found n p k h e = sym (lt-ltb 0 (count n p) (count_pos n p k h e))

pub any_none : (n : ℕ) (p : ℕ → Bool) → ((k : ℕ) → k < n → p k ≡ false) → false ≡ ltb 0 (count n p)
any_none n p f = rw (count_none n p f)

pub all_failed : (n : ℕ) (p : ℕ → Bool) (k : ℕ) → k < n → p k ≡ false → false ≡ all n p
all_failed n p k h e = sym (refuted (all n p) (λ a. false≢true (sym e ∙ all-at n p a k h)))

-- A SUM

module _ (f : ℕ → ℕ) where
  pub sum-start : 0 ≡ sum 0 f
  unfolding sum
  sum-start = refl

  pub sum_more : (k a x : ℕ) → a ≡ sum k f → x ≡ f k → a + x ≡ sum (k + 1) f
  unfolding sum
  sum_more k a x e h = rw (add-one, e, h)

  sum_clipped : (n m : ℕ) → ((k : ℕ) → m ≤ k → f k ≡ 0) → sum (min n m) f ≡ sum n f
  unfolding sum
  sum_clipped zero m z = let e : min zero m ≡ zero = omega arith in rw e
  sum_clipped (suc n) m z = elim (dec_lt n m) [
    | yes h ↦ let e : min (suc n) m ≡ suc n = omega arith in rw e
    | no h ↦
        let e : min (suc n) m ≡ min n m = omega arith in
        let z0 : f n ≡ 0 = z n (omega arith) in
        rw (e, sum_clipped n m z) (omega arith)
  ]

  pub sum_past : (n m k a : ℕ) → k ≡ min n m → ((j : ℕ) → m ≤ j → f j ≡ 0) → a ≡ sum k f → a ≡ sum n f
  sum_past n m k a e z h = h ∙ rw e (sum_clipped n m z)

  pub sum-none : (n : ℕ) → ((k : ℕ) → f k ≡ 0) → 0 ≡ sum n f
  sum-none n z = sum_past n 0 0 0 (omega arith) (λ k _. z k) sum-start

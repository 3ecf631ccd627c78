-- A number in decimal: what holds of its digits goes by the number without its last digit, and a number below a power of ten
-- has no more digits than the power. Assumes nothing.
use mathlib.Core.Path.{◌≡◌, refl}
use mathlib.Core.List.{List, [], ◌∷◌, ◌++◌}
use Prim.Native.Nat.{ℕ, zero, suc, ◌+◌, ◌/◌, ◌%◌, ◌^◌, ◌≤◌, ◌<◌}
use native.Mathlib.Omega.{arith}
use native.Mathlib.Decide.{dec_lt}
use lib.ListN.{length, length-append}
use Rattle.model.specs.Runs.{digits, decimal}

-- WITHOUT THE LAST DIGIT

no_digits : (f : ℕ) → digits f 0 ≡ []
unfolding digits
no_digits zero = refl
no_digits (suc f) = refl

same_digits : (f g x : ℕ) → x ≤ f → x ≤ g → digits f x ≡ digits g x
unfolding digits
same_digits zero g zero h k = rw (no_digits g)
same_digits zero g (suc x) h k = absurd (omega arith)
same_digits (suc f) g zero h k = rw (no_digits g)
same_digits (suc f) zero (suc x) h k = absurd (omega arith)
same_digits (suc f) (suc g) (suc x) h k = rw (same_digits f g (suc x / 10) (omega arith) (omega arith))

pub decimal_one : (x : ℕ) → x < 10 → decimal x ≡ (48 + x) ∷ []
unfolding decimal
decimal_one x h =
    let none : x / 10 ≡ 0 = omega arith in
    let last : x % 10 ≡ x = omega arith in
    rw (none, last, no_digits x)

more_digits : (f x : ℕ) → 0 < x → x ≤ f → digits f x ≡ decimal x
unfolding decimal digits
more_digits f zero l h = absurd (omega arith)
more_digits zero (suc x) l h = absurd (omega arith)
more_digits (suc f) (suc x) l h = rw (same_digits f (suc x) (suc x / 10) (omega arith) (omega arith))

pub decimal_more : (x : ℕ) → 10 ≤ x → decimal x ≡ decimal (x / 10) ++ ((48 + x % 10) ∷ [])
unfolding decimal
decimal_more x h = rw (more_digits x (x / 10) (omega arith) (omega arith))

module _ (P : ℕ → List ℕ → Type 0) (one : (x : ℕ) → x < 10 → P x ((48 + x) ∷ []))
    (more : (x : ℕ) (s : List ℕ) → 10 ≤ x → P (x / 10) s → P x (s ++ ((48 + x % 10) ∷ []))) where
  below : (f x : ℕ) → x < f → P x (decimal x)
  below zero x h = absurd (omega arith)
  below (suc f) x h = go (dec_lt x 10) (λ l. below f (x / 10) (omega arith))
    where
      go : Dec (x < 10) → (10 ≤ x → P (x / 10) (decimal (x / 10))) → P x (decimal x)
      go (yes l) r = rw (decimal_one x l) (one x l)
      go (no l) r = let h : 10 ≤ x = omega arith in rw (decimal_more x h) (more x (decimal (x / 10)) h (r h))

  -- what holds of one digit, and of a number with its last digit where it holds without
  pub by_decimal : (x : ℕ) → P x (decimal x)
  by_decimal x = below (suc x) x (omega arith)

-- HOW MANY DIGITS

pub decimal_bound : (k x : ℕ) → x < 10 ^ suc k → length (decimal x) ≤ suc k
decimal_bound k x h = by_decimal (λ x s. (k : ℕ) → x < 10 ^ suc k → length s ≤ suc k) (λ x h k l. omega arith) more x k h
  where
    more : (x : ℕ) (s : List ℕ) → 10 ≤ x → ((k : ℕ) → x / 10 < 10 ^ suc k → length s ≤ suc k)
        → (k : ℕ) → x < 10 ^ suc k → length (s ++ ((48 + x % 10) ∷ [])) ≤ suc k
    more x s h r zero l = absurd (omega arith)
    more x s h r (suc k) l = omega (arith, length-append s ((48 + x % 10) ∷ []), r k (omega arith))

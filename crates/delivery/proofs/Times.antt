-- How often a number stands among the first numbers of f, and what one of them does that gives its place to the last. Assumes nothing.
use mathlib.Core.Path.{◌≡◌, refl, sym, ap, ◌∙◌}
use mathlib.Core.Logic.{◌≢◌}
use mathlib.Core.Bool.{Bool}
use Prim.Native.Nat.{ℕ, zero, suc, ◌+◌, ◌≤◌, ◌<◌}
use native.Mathlib.Numerals.{add-one}
use native.Mathlib.Nat.{not-suc-le-zero}
use native.Mathlib.Decide.{ℕ_discrete, dec_lt}
use native.Mathlib.Omega.{arith}
use borrow.Author.Tests.{eq-eqb}
use lib.Dec.{eqb}
use Rattle.lists.specs.Below.{tally, count}
use Rattle.lists.proofs.Below.{Found, tally-plus, count_ext, count_pos, count-found}
use Rattle.delivery.specs.Apply.{times}

module _ (f : ℕ → ℕ) where
  pub times_none : (t : ℕ) → times f 0 t ≡ 0
  unfolding times count
  times_none t = refl

  pub times_more : (k t : ℕ) → times f (k + 1) t ≡ tally (eqb (f k) t) (times f k t)
  unfolding times count
  times_more k t = rw (add-one k)

  pub times-at : (k j : ℕ) → j < k → 0 < times f k (f j)
  unfolding times
  times-at k j h = count_pos k _ j h (eq-eqb (f j) (f j) refl)

  pub times-found : (k t : ℕ) → 0 < times f k t → Found k (λ j. eqb (f j) t)
  unfolding times
  times-found k t h = count-found k _ h

pub times_ext : (f g : ℕ → ℕ) (k t : ℕ) → ((j : ℕ) → j < k → f j ≡ g j) → times f k t ≡ times g k t
unfolding times
times_ext f g k t e = count_ext k _ _ (λ j h. ap (λ x. eqb x t) (e j h))

tally_swap : (a b : Bool) (x : ℕ) → tally a (tally b x) ≡ tally b (tally a x)
tally_swap a b x = omega (arith, tally-plus a x, tally-plus b x, tally-plus a (tally b x), tally-plus b (tally a x))

module _ (f g : ℕ → ℕ) (i t : ℕ) where
  -- where f and g differ at i alone
  changed : (k : ℕ) → i < k → ((j : ℕ) → j < k → j ≢ i → g j ≡ f j) → tally (eqb (f i) t) (times g k t) ≡ tally (eqb (g i) t) (times f k t)
  unfolding times count
  changed zero h e = absurd (not-suc-le-zero h)
  changed (suc k) h e = go (ℕ_discrete i k) (λ l. changed k l (λ j b. e j (omega arith)))
    where
      go : Dec (i ≡ k) → (i < k → tally (eqb (f i) t) (times g k t) ≡ tally (eqb (g i) t) (times f k t))
          → tally (eqb (f i) t) (times g (suc k) t) ≡ tally (eqb (g i) t) (times f (suc k) t)
      go (yes p) r = rw (← p, times_ext g f i t (λ j l. e j (omega arith) (omega arith))) (tally_swap (eqb (f i) t) (eqb (g i) t) (times f i t))
      go (no d) r =
          rw (e k (omega arith) (omega arith)) (tally_swap (eqb (f i) t) (eqb (f k) t) (times g k t)
          ∙ ap (tally (eqb (f k) t)) (r (omega arith)) ∙ tally_swap (eqb (f k) t) (eqb (g i) t) (times f k t))

  -- the number at i gives its place to the last
  pub moved : (k : ℕ) → i ≤ k → ((j : ℕ) → j < k → j ≢ i → g j ≡ f j) → (i < k → g i ≡ f k) → tally (eqb (f i) t) (times g k t) ≡ times f (k + 1) t
  moved k h e last = go (dec_lt i k)
    where
      go : Dec (i < k) → tally (eqb (f i) t) (times g k t) ≡ times f (k + 1) t
      go (yes l) = changed k l e ∙ rw (last l) (sym (times_more f k t))
      go (no l) = let p : i ≡ k = omega arith in rw p (ap (tally (eqb (f k) t)) (times_ext g f k t (λ j b. e j b (omega arith))) ∙ sym (times_more f k t))

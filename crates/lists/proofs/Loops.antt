-- What a turn of a counting or testing loop keeps, and what its end gives. Assumes nothing.
use mathlib.Core.Path.{◌≡◌, refl, ◌∙◌}
use mathlib.Core.Bool.{Bool, true, false, ◌&&◌}
use Prim.Native.Nat.{ℕ, max, ◌+◌}
use native.Mathlib.Numerals.{add-one}
use native.Mathlib.Omega.{arith}
use Rattle.lists.specs.Below.{count, all, greatest}

module _ (p : ℕ → Bool) where
  pub count-start : 0 ≡ count 0 p
  unfolding count
  count-start = refl

  pub count_yes : (k c c' : ℕ) → p k ≡ true → c ≡ count k p → c' ≡ c + 1 → c' ≡ count (k + 1) p
  unfolding count
  count_yes k c c' h e f = rw (add-one k, h) (omega arith)

  pub count_no : (k c c' : ℕ) → p k ≡ false → c ≡ count k p → c' ≡ c → c' ≡ count (k + 1) p
  unfolding count
  count_no k c c' h e f = rw (add-one k, h) (f ∙ e)

  pub count_end : (k n c : ℕ) → k ≡ n → c ≡ count k p → c ≡ count n p
  count_end k n c h e = rw (← h) e

  pub all_start : true ≡ all 0 p
  unfolding all
  all_start = refl

  pub all_turn : (k : ℕ) (g b : Bool) → g ≡ all k p → b ≡ p k → (b && g) ≡ all (k + 1) p
  unfolding all
  all_turn k g b e h = rw (add-one k, e, h)

  pub all_end : (k n : ℕ) (g : Bool) → k ≡ n → g ≡ all k p → g ≡ all n p
  all_end k n g h e = rw (← h) e

module _ (f : ℕ → ℕ) where
  pub greatest-start : 0 ≡ greatest 0 f
  unfolding greatest
  greatest-start = refl

  pub greatest_turn : (k g b r : ℕ) → g ≡ greatest k f → b ≡ f k → r ≡ max g b → r ≡ greatest (k + 1) f
  unfolding greatest
  greatest_turn k g b r e h q = rw (add-one k, ← e, ← h) q

  pub greatest_end : (k n g : ℕ) → k ≡ n → g ≡ greatest k f → g ≡ greatest n f
  greatest_end k n g h e = rw (← h) e

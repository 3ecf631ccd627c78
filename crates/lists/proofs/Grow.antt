-- A tabulated list grows at its end: its last element, its first ones, its image, and a count that some test passes. Assumes nothing.
use mathlib.Core.Path.{◌≡◌, refl, ap}
use mathlib.Core.Bool.{Bool, true, false, ◌||◌}
use mathlib.Core.List.{[], ◌∷◌, ◌++◌, map}
use Prim.Native.Nat.{ℕ, zero, suc, ◌+◌, ◌≤◌}
use native.Mathlib.Numerals.{add-one}
use native.Mathlib.Nat.{add-zero}
use native.Mathlib.Omega.{arith}
use lib.ListN.{take}
use lib.Dec.{ltb}
use borrow.Author.Tests.{lt-ltb}
use Rattle.lists.specs.Below.{tally, count}
use Rattle.lists.specs.Build.{tabulate_from, tabulate}

module _ {ℓ} {A : Type ℓ} (f : ℕ → A) where
  tabulate_from_last : (i n : ℕ) → tabulate_from i (suc n) f ≡ tabulate_from i n f ++ (f (i + n) ∷ [])
  unfolding tabulate_from
  tabulate_from_last i zero = rw add-zero
  tabulate_from_last i (suc n) =
      let e : suc i + n ≡ i + suc n = omega arith in
      rw (← e) (ap (λ l. f i ∷ l) (tabulate_from_last (suc i) n))

  pub tabulate-suc : (n : ℕ) → tabulate (suc n) f ≡ tabulate n f ++ (f n ∷ [])
  unfolding tabulate
  tabulate-suc n =
      let e : 0 + n ≡ n = omega arith in
      rw (tabulate_from_last 0 n, e)

  pub tabulate_last : (n : ℕ) → tabulate (n + 1) f ≡ tabulate n f ++ (f n ∷ [])
  tabulate_last n = rw add-one (tabulate-suc n)

  tabulate_from-take : (i k n : ℕ) → k ≤ n → take k (tabulate_from i n f) ≡ tabulate_from i k f
  unfolding tabulate_from
  tabulate_from-take i zero n h = refl
  tabulate_from-take i (suc k) zero h = absurd (omega arith)
  tabulate_from-take i (suc k) (suc n) h = ap (λ l. f i ∷ l) (tabulate_from-take (suc i) k n (omega arith))

  pub tabulate-take : (k n : ℕ) → k ≤ n → take k (tabulate n f) ≡ tabulate k f
  unfolding tabulate
  tabulate-take k n h = tabulate_from-take 0 k n h

pub map-tabulate {ℓ κ} : {A : Type ℓ} {B : Type κ} (g : A → B) (n : ℕ) (f : ℕ → A) → map g (tabulate n f) ≡ tabulate n (λ i. g (f i))
unfolding tabulate tabulate_from
map-tabulate g n f = from 0 n
  where
    from : (i n : ℕ) → map g (tabulate_from i n f) ≡ tabulate_from i n (λ j. g (f j))
    from i zero = refl
    from i (suc n) = ap (λ l. g (f i) ∷ l) (from (suc i) n)

-- one of n + 1 passes: the last, or one before it
pub some_last : (n : ℕ) (p : ℕ → Bool) → ltb 0 (count (suc n) p) ≡ (p n || ltb 0 (count n p))
unfolding count
some_last n p = go (p n)
  where
    go : (b : Bool) → ltb 0 (tally b (count n p)) ≡ (b || ltb 0 (count n p))
    go true = lt-ltb 0 (suc (count n p)) (omega arith)
    go false = refl

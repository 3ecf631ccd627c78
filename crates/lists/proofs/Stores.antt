-- Stores that leave a list as it was, and one store into a list built from a function of the index. Assumes nothing.
use mathlib.Core.Path.{◌≡◌, refl, sym, ◌∙◌}
use mathlib.Core.Logic.{◌≢◌}
use mathlib.Core.List.{List}
use Prim.Native.Nat.{ℕ, zero, suc, ◌+◌, ◌-◌, ◌≤◌, ◌<◌}
use native.Mathlib.Nat.{add-zero}
use native.Mathlib.Numerals.{add-one}
use native.Mathlib.Omega.{arith}
use native.Mathlib.Decide.{ℕ_discrete}
use lib.ListN.{length, get_or, set, length-set}
use lib.Seq.{ext_get_or, set-get_or, get_or-set_same, get_or-set_other}
use Rattle.lists.specs.Build.{tabulate, over}
use Rattle.lists.proofs.Build.{length-tabulate, get_d_tabulate, get_d_over_past, over-tabulate}

module _ {ℓ} {A : Type ℓ} (f : ℕ → A) (s : List A) (d : A) where
  -- a store of what stands there
  pub over-same : (k : ℕ) → f k ≡ get_or s k d → over f (k + 1) s ≡ over f k s
  unfolding over
  over-same k e = rw (add-one, e, ← get_d_over_past f k s k d (omega arith)) (set-get_or (over f k s) k d)

  pub over_rest : (n k : ℕ) → ((i : ℕ) → n ≤ i → f i ≡ get_or s i d) → over f (n + k) s ≡ over f n s
  over_rest n zero e = rw add-zero refl
  over_rest n (suc k) e =
      let q : n + suc k ≡ n + k + 1 = omega arith in
      rw q (over-same (n + k) (e (n + k) (omega arith)) ∙ over_rest n k e)

  -- where every store from n on would be of what stands there, n stores do
  pub over_enough : (n m : ℕ) → n ≤ m → length s ≡ m → ((i : ℕ) → n ≤ i → f i ≡ get_or s i d) → over f n s ≡ tabulate m f
  over_enough n m h l e =
      let q : n + (m - n) ≡ m = omega arith in
      sym (over_rest n (m - n) e) ∙ rw q (over-tabulate f m s d l)

-- two functions that differ at i alone
pub set-tabulate {ℓ} : {A : Type ℓ} (n : ℕ) (f g : ℕ → A) (d : A) (i : ℕ) (v : A) → i < n → v ≡ g i → ((k : ℕ) → k < n → k ≢ i → f k ≡ g k)
    → set (tabulate n f) i v ≡ tabulate n g
set-tabulate n f g d i v h e o =
    ext_get_or d _ _ (length-set (tabulate n f) i v ∙ length-tabulate n f ∙ sym (length-tabulate n g))
    (λ k l. let b : k < n = omega (arith, length-set (tabulate n f) i v, length-tabulate n f) in go k b (ℕ_discrete k i) ∙ sym (get_d_tabulate n g d k b))
  where
    go : (k : ℕ) → k < n → Dec (k ≡ i) → get_or (set (tabulate n f) i v) k d ≡ g k
    go k b (yes p) = rw p (get_or-set_same (tabulate n f) i v d (omega (arith, length-tabulate n f)) ∙ e)
    go k b (no p) = get_or-set_other (tabulate n f) i k v d p ∙ get_d_tabulate n f d k b ∙ o k b p

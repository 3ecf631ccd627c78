-- Lists built from a function of the index, and stored over another list.
use Rattle.std.specs.Prelude.{ℕ, zero, suc, List, [], ◌∷◌, ◌++◌, length, drop, set}

-- f i, f (i + 1), ..: n of them
unfoldable pub tabulate_from {ℓ} : {A : Type ℓ} → ℕ → ℕ → (ℕ → A) → List A
tabulate_from i zero f = []
tabulate_from i (suc n) f = f i ∷ tabulate_from (suc i) n f

-- f 0, f 1, ..: n of them
unfoldable pub tabulate {ℓ} : {A : Type ℓ} → ℕ → (ℕ → A) → List A
tabulate n f = tabulate_from 0 n f

-- the list with f 0, .. f (n - 1) stored in its first n places
unfoldable pub over {ℓ} : {A : Type ℓ} → (ℕ → A) → ℕ → List A → List A
over f zero s = s
over f (suc n) s = set (over f n s) n (f n)

-- the list with another written over its first places
unfoldable pub overlay {ℓ} : {A : Type ℓ} → List A → List A → List A
overlay x s = x ++ drop (length x) s

-- The law of a line that is ended and written. Assumes nothing.
use mathlib.Core.Path.{◌≡◌, ap, ◌∙◌}
use mathlib.Core.List.{List, [], ◌∷◌, ◌++◌}
use Prim.Native.Nat.{ℕ}
use lib.ListN.{take}
use Rattle.std.specs.Prelude.{Result}
use Rattle.model.specs.declared.refusal.Refusal.{Refusal}
use Rattle.listing.specs.Writing.{Wrote}

-- the line y, whose bytes up to its end stand at the front of a buffer, and which is then ended and written
pub ended-written : (t : List ℕ) (k : ℕ) {x y u v : List ℕ} {r : Result ℕ Refusal} → take k t ≡ x → x ++ (10 ∷ []) ≡ y
    → Wrote (take k t ++ (10 ∷ [])) u v r → Wrote y u v r
ended-written t k front e w = rw (← (ap (λ (l : List ℕ). l ++ (10 ∷ [])) front ∙ e)) w

-- Decimal numbers read back, and text split at a byte: what the reader of listing lines rests on. Assumes nothing.
use Prim.Native.Nat.{ℕ, ◌+◌, ◌-◌, ◌*◌, ◌%◌, ◌≤◌, ◌<◌}
use mathlib.Core.Path.{◌≡◌, refl}
use mathlib.Core.List.{List, [], ◌∷◌, ◌++◌}
use mathlib.Core.Logic.{◌≢◌}
use native.Mathlib.Omega.{arith}
use borrow.Author.Tests.{eq-eqb, ne_eqb}
use Rattle.lists.specs.Every.{Every}
use Rattle.lists.proofs.Every.{every_append, every_weaker}
use Rattle.model.specs.Runs.{decimal}
use Rattle.model.proofs.Decimals.{by_decimal}
use Rattle.consistency.specs.Lines.{first, split, number_from, number_in}

-- DECIMAL NUMBERS

abbrev pub Digit : ℕ → Type 0
Digit b = (48 ≤ b) × (b ≤ 57)

pub decimal-digits : (x : ℕ) → Every Digit (decimal x)
unfolding Every
decimal-digits =
    by_decimal (λ x s. Every Digit s) (λ x h. (omega arith, tt))
    (λ x s h r. every_append Digit s ((48 + x % 10) ∷ []) r (omega arith, tt))

number_snoc : (k : ℕ) (s : List ℕ) (b : ℕ) → number_from k (s ++ (b ∷ [])) ≡ number_from k s * 10 + (b - 48)
unfolding number_from
number_snoc k [] b = refl
number_snoc k (a ∷ s) b = number_snoc (k * 10 + (a - 48)) s b

-- every number is read back
pub decimal_number : (x : ℕ) → number_in (decimal x) ≡ x
unfolding number_from
decimal_number =
    by_decimal (λ x s. number_in s ≡ x) (λ x h. omega arith) (λ x s h r. omega (arith, number_snoc 0 s (48 + x % 10)))

-- SPLITTING

-- no element is x
abbrev pub Lacks : ℕ → List ℕ → Type 0
Lacks x s = Every (λ b. b ≢ x) s

pub split-at-first : (x : ℕ) (p s : List ℕ) → Lacks x p → split x (p ++ (x ∷ s)) ≡ p ∷ split x s
unfolding split Every first
split-at-first x [] s h = rw (eq-eqb x x refl)
split-at-first x (b ∷ p) s h = rw (ne_eqb b x h.0, split-at-first x p s h.1)

pub split-whole : (x : ℕ) (p : List ℕ) → Lacks x p → split x p ≡ p ∷ []
unfolding split Every first
split-whole x [] h = refl
split-whole x (b ∷ p) h = rw (ne_eqb b x h.0, split-whole x p h.1)

pub lacks_joined : (x b : ℕ) (p s : List ℕ) → b ≢ x → Lacks x p → Lacks x s → Lacks x (p ++ (b ∷ s))
unfolding Every
lacks_joined x b p s d h k = every_append (λ a. a ≢ x) p (b ∷ s) h (d, k)

-- a byte that is no digit stands in no number
pub decimal_lacks : (x k : ℕ) → k < 48 → Lacks k (decimal x)
decimal_lacks x k h = every_weaker Digit (λ b. b ≢ k) (λ b d. omega arith) (decimal x) (decimal-digits x)

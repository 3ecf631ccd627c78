-- Laws of tests: conjunctions, choices by a test, and a property of every number below a bound. Assumes nothing.
use mathlib.Core.Path.{◌≡◌, refl, sym, ◌∙◌}
use mathlib.Core.Bool.{Bool, true, false, not, ◌&&◌, ◌||◌, cond, beq, true≢false, false≢true}
use mathlib.Core.Logic.{◌⊎◌, inl, inr}
use Prim.Native.Nat.{ℕ, suc, ◌+◌, ◌<◌}
use native.Mathlib.Omega.{arith}
use native.Mathlib.Decide.{ℕ_discrete}

pub and_left : (a b : Bool) → (a && b) ≡ true → a ≡ true
and_left true b e = refl
and_left false b e = e

pub and_right : (a b : Bool) → (a && b) ≡ true → b ≡ true
and_right true b e = e
and_right false b e = absurd (false≢true e)

pub both : {a b : Bool} → a ≡ true → b ≡ true → (a && b) ≡ true
both p q = rw (p, q)

pub or_cases : (a b : Bool) → (a || b) ≡ true → (a ≡ true) ⊎ (b ≡ true)
or_cases true b e = inl refl
or_cases false b e = inr e

pub or-false : (a b : Bool) → (a || b) ≡ false → (a ≡ false) × (b ≡ false)
or-false true b e = absurd (true≢false e)
or-false false b e = (refl, e)

pub or_left : {a : Bool} (b : Bool) → a ≡ true → (a || b) ≡ true
or_left b p = rw p

pub or_right : (a : Bool) {b : Bool} → b ≡ true → (a || b) ≡ true
or_right true p = refl
or_right false p = p

-- `not a || b` is an implication
pub implies_at : (a b : Bool) → (not a || b) ≡ true → a ≡ true → b ≡ true
implies_at true b e p = e
implies_at false b e p = absurd (false≢true p)

pub implies_of : (a b : Bool) → (a ≡ true → b ≡ true) → (not a || b) ≡ true
implies_of true b f = f refl
implies_of false b f = refl

pub not_both : (a b : Bool) → not (a && b) ≡ true → a ≡ true → b ≡ true → ⊥
not_both true true e p q = false≢true e
not_both true false e p q = false≢true q
not_both false b e p q = false≢true p

pub not_both_of : (a b : Bool) → (a ≡ true → b ≡ true → ⊥) → not (a && b) ≡ true
not_both_of true true f = absurd (f refl refl)
not_both_of true false f = refl
not_both_of false b f = refl

pub decided : (b : Bool) → (b ≡ true) ⊎ (b ≡ false)
decided true = inl refl
decided false = inr refl

pub by_contradiction : (b : Bool) → (b ≡ false → ⊥) → b ≡ true
by_contradiction true f = refl
by_contradiction false f = absurd (f refl)

pub refuted : (b : Bool) → (b ≡ true → ⊥) → b ≡ false
refuted true f = absurd (f refl)
refuted false f = refl

pub contradiction {ℓ} : {A : Type ℓ} {b : Bool} → b ≡ true → b ≡ false → A
contradiction p q = absurd (true≢false (sym p ∙ q))

pub bool_eq : (a b : Bool) → (a ≡ true → b ≡ true) → (b ≡ true → a ≡ true) → a ≡ b
bool_eq true b f g = sym (f refl)
bool_eq false true f g = g refl
bool_eq false false f g = refl

pub beq_eq : (a b : Bool) → beq a b ≡ true → a ≡ b
beq_eq true true e = refl
beq_eq true false e = absurd (false≢true e)
beq_eq false true e = absurd (false≢true e)
beq_eq false false e = refl

pub eq_beq : (a b : Bool) → a ≡ b → beq a b ≡ true
eq_beq true b e = rw (← e)
eq_beq false b e = rw (← e)

-- a choice by a test has a property that each side has where the test comes out its way
pub cond_case {ℓ κ} : {A : Type ℓ} (P : A → Type κ) (b : Bool) (x y : A) → (b ≡ true → P x) → (b ≡ false → P y) → P (cond b x y)
cond_case P true x y f g = f refl
cond_case P false x y f g = g refl

pub cond_true {ℓ} : {A : Type ℓ} {b : Bool} (x y : A) → b ≡ true → cond b x y ≡ x
cond_true x y e = rw e

pub cond_false {ℓ} : {A : Type ℓ} {b : Bool} (x y : A) → b ≡ false → cond b x y ≡ y
cond_false x y e = rw e

-- a number taken by one of two tests that never pass together
pub cond_apart : (a b : Bool) (k : ℕ) → (a ≡ true → b ≡ false) → cond (a || b) k 0 ≡ cond a k 0 + cond b k 0
cond_apart true true k f = absurd (true≢false (f refl))
cond_apart true false k f = omega arith
cond_apart false b k f = omega arith

-- k below suc n is n or below n
pub below_suc {ℓ} : (P : ℕ → Type ℓ) (n : ℕ) → P n → ((k : ℕ) → k < n → P k) → (k : ℕ) → k < suc n → P k
below_suc P n pn pk k h = go (ℕ_discrete k n)
  where
    go : Dec (k ≡ n) → P k
    go (yes e) = rw e pn
    go (no f) = pk k (omega (arith, f))

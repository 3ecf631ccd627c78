-- A highest number that is not 0 is that of a message applied. Assumes nothing.
use mathlib.Core.Path.{◌≡◌, refl, sym, ◌∙◌}
use mathlib.Core.Bool.{Bool, true, false, cond}
use Prim.Native.Nat.{ℕ, zero, suc, max, ◌<◌}
use native.Mathlib.Omega.{arith}
use native.Mathlib.Decide.{dec_lt}
use lib.Dec.{eqb}
use borrow.Author.Tests.{eqb-true}
use Rattle.lists.specs.Below.{greatest}
use Rattle.model.specs.Tables.{message, applied, highest}
use Rattle.model.specs.Events.{number_of}
use Rattle.model.specs.Facts.{greatest_applied, Among, GoodController}
use Rattle.model.specs.declared.Controller.{Controller}
use Rattle.model.specs.declared.Table.{Table}

-- an argument below n at which f is greatest
record Attained (n : ℕ) (f : ℕ → ℕ) (k : ℕ) : Type 0 where
  which : ℕ
  below : which < n
  is : f which ≡ k

greatest_attained : (n : ℕ) (f : ℕ → ℕ) → 0 < greatest n f → Attained n f (greatest n f)
unfolding greatest
greatest_attained zero f h = absurd (omega arith)
greatest_attained (suc n) f h = go (dec_lt (greatest n f) (f n)) (λ l. greatest_attained n f l)
  where
    go : Dec (greatest n f < f n) → (0 < greatest n f → Attained n f (greatest n f)) → Attained (suc n) f (max (greatest n f) (f n))
    go (yes l) r = record { which = n; below = omega arith; is = omega arith }
    go (no l) r = let a = r (omega arith) in record { which = a.which; below = omega (arith, a.below); is = omega (arith, a.is) }

pub record HighestApplied (t : Table) (c : Controller) (x : ℕ) : Type 0 where
  pub slot : ℕ
  pub below : slot < t.count
  pub is_applied : applied c slot ≡ true
  pub sender : (message t slot).sender ≡ x
  pub number : (message t slot).number.0 ≡ highest c x

pub highest-applied : (t : Table) (i : ℕ) (c : Controller) → GoodController t i c → (x : ℕ) → Among t.n x → 0 < highest c x → HighestApplied t c x
unfolding greatest_applied number_of
highest-applied t i c g x h l =
    let e = g.highest_is x h in
    let a = greatest_attained t.count (λ s. cond (applied c s) (cond (eqb (message t s).sender x) (message t s).number.0 0) 0) (omega (arith, e)) in
    go a.which a.below (applied c a.which) (eqb (message t a.which).sender x) refl refl (a.is ∙ sym e)
  where
    go : (s : ℕ) → s < t.count → (b d : Bool) → applied c s ≡ b → eqb (message t s).sender x ≡ d
        → cond b (cond d (message t s).number.0 0) 0 ≡ highest c x → HighestApplied t c x
    go s k true true p q n = record { slot = s; below = k; is_applied = p; sender = eqb-true (message t s).sender x q; number = n }
    go s k true false p q n = absurd (omega (arith, n))
    go s k false d p q n = absurd (omega (arith, n))

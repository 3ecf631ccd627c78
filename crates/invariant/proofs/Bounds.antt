-- On a well-formed table the two sums, of all messages or of a class, come together to at most 23,040: 64 amounts of at most 360.
-- Assumes nothing.
use mathlib.Core.Path.{◌≡◌}
use mathlib.Core.Bool.{Bool, true, false, ◌&&◌, ◌||◌, cond}
use mathlib.Core.Logic.{◌⊎◌, inl, inr, ◌≢◌}
use Prim.Native.Nat.{ℕ, ◌+◌, ◌≤◌}
use native.Mathlib.Omega.{arith}
use lib.Dec.{eqb, ltb}
use borrow.Author.Tests.{leb-true, eqb-true, ne_eqb}
use Rattle.lists.proofs.Tests.{and_left, and_right, or_cases}
use Rattle.lists.proofs.Below.{sum_bound, sum-plus}
use Rattle.model.specs.Tables.{message, applied, messages_of}
use Rattle.model.specs.Events.{weigh, sums, class_sums}
use Rattle.model.specs.Fair.{fair_magnitude, fair_amount}
use Rattle.model.specs.declared.Payload.{Payload}
use Rattle.model.specs.declared.Sums.{Sums}
use Rattle.model.specs.declared.Controller.{Controller}
use Rattle.model.specs.declared.Table.{Table}
use Rattle.model.specs.Facts.{WellFormed}
use Rattle.invariant.specs.Claims.{Bounded}

-- AN AMOUNT

magnitude_bound : (x : ℕ) → fair_magnitude x ≡ true → x ≤ 360
unfolding fair_magnitude
magnitude_bound x e = leb-true x 360 (and_right (ltb 0 x) _ e)

-- it has at most one part that is not 0, of at most 360
pub record FairParts (p : Payload) : Type 0 where
  pub apart : (p.added ≡ 0) ⊎ (p.withdrawn ≡ 0)
  pub small : p.added + p.withdrawn ≤ 360

pub fair_parts : (p : Payload) → fair_amount p ≡ true → FairParts p
unfolding fair_amount
fair_parts p e = kinds (or_cases (eqb p.kind 1 && (fair_magnitude p.added && eqb p.withdrawn 0 || eqb p.added 0 && fair_magnitude p.withdrawn)) _ e)
  where
    one : (p.added ≡ 0) ⊎ (p.withdrawn ≡ 0) → p.added ≤ 360 → p.withdrawn ≤ 360 → FairParts p
    one (inl z) a w = record { apart = inl z; small = omega arith }
    one (inr z) a w = record { apart = inr z; small = omega arith }

    amounts : (fair_magnitude p.added && eqb p.withdrawn 0 ≡ true) ⊎ (eqb p.added 0 && fair_magnitude p.withdrawn ≡ true) → FairParts p
    amounts (inl q) =
        let z = eqb-true p.withdrawn 0 (and_right (fair_magnitude p.added) _ q) in
        one (inr z) (magnitude_bound p.added (and_left _ _ q)) (omega arith)
    amounts (inr q) =
        let z = eqb-true p.added 0 (and_left _ _ q) in
        one (inl z) (omega arith) (magnitude_bound p.withdrawn (and_right (eqb p.added 0) _ q))

    kinds : (eqb p.kind 1 && (fair_magnitude p.added && eqb p.withdrawn 0 || eqb p.added 0 && fair_magnitude p.withdrawn) ≡ true)
        ⊎ ((eqb p.kind 2 || eqb p.kind 6) && (eqb p.added 0 && eqb p.withdrawn 0) ≡ true)
        → FairParts p
    kinds (inl q) = amounts (or_cases (fair_magnitude p.added && eqb p.withdrawn 0) _ (and_right (eqb p.kind 1) _ q))
    kinds (inr q) =
        let r = and_right (eqb p.kind 2 || eqb p.kind 6) _ q in
        let a = eqb-true p.added 0 (and_left _ _ r) in
        let w = eqb-true p.withdrawn 0 (and_right (eqb p.added 0) _ r) in
        one (inl a) (omega arith) (omega arith)

-- and none where it is no report's: a sync and a write weigh nothing
pub weighs_nothing : (p : Payload) → fair_amount p ≡ true → p.kind ≢ 1 → (p.added ≡ 0) × (p.withdrawn ≡ 0)
unfolding fair_amount
weighs_nothing p e n =
    let r = and_right (eqb p.kind 2 || eqb p.kind 6) _ (rw (ne_eqb p.kind 1 n) at e) in
    (eqb-true p.added 0 (and_left _ _ r), eqb-true p.withdrawn 0 (and_right (eqb p.added 0) _ r))

-- TWO SUMS

pub bounded : (z : Sums) → z.added + z.withdrawn ≤ 23040 → Bounded z
bounded z h = record { added = omega arith; withdrawn = omega arith; together = h }

where_counted : (b : Bool) (v w : ℕ) → v + w ≤ 360 → cond b v 0 + cond b w 0 ≤ 360
where_counted true v w h = h
where_counted false v w h = omega arith

module _ (t : Table) (f : WellFormed t) (x : Controller) where
  -- of any two weights that come to at most 360 for each message
  weigh_bound : (v w : Payload → ℕ) → ((p : Payload) → fair_amount p ≡ true → v p + w p ≤ 360) → weigh v (messages_of t) x.applied + weigh w (messages_of t) x.applied ≤ 23040
  unfolding weigh
  weigh_bound v w h =
      omega (
        arith,
        f.fitting,
        sum-plus t.count (λ s. cond (applied x s) (v (message t s).payload) 0) (λ s. cond (applied x s) (w (message t s).payload) 0),
        sum_bound t.count _ 360 (λ s l. where_counted (applied x s) _ _ (h (message t s).payload (f.amounts s l))),
      )

  pub sums_bounded : Bounded (sums (messages_of t) x.applied)
  unfolding sums
  sums_bounded = bounded _ (weigh_bound _ _ (λ p e. (fair_parts p e).small))

  pub class_bounded : (k : ℕ) → Bounded (class_sums (messages_of t) x.applied k)
  unfolding class_sums
  class_bounded k = bounded _ (weigh_bound _ _ (λ p e. where_counted (eqb p.class k) _ _ (fair_parts p e).small))

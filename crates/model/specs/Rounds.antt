-- The set that a controller applies, worked out by rounds of removals. It is the largest set of Largest.antt, and there is no other:
-- proofs/Largest.antt, `applicable-largest`, `applicable_unique`.
use Rattle.std.specs.Prelude.{ℕ, zero, suc, Bool, not, ◌&&◌, ◌||◌, cond, List, eqb}
use Rattle.lists.specs.Below.{count, all}
use Rattle.lists.specs.Build.{tabulate}
use Rattle.model.specs.Tables.{capacity, in_buffer}
use Rattle.model.specs.Delivery.{Slots, has}
use Rattle.model.specs.Largest.{candidate, precedes}
use Rattle.model.specs.declared.Pending.{Pending}

-- Over N slots: `held` are those to choose among, `fit` those that may be chosen, and `before` is the relation.
module _ (N : ℕ) (held fit : ℕ → Bool) (before : ℕ → ℕ → Bool) where
  -- s goes before each held slot outside S
  unfoldable pub clears : Slots → ℕ → Bool
  clears S s = all N (λ t. let b = before s t in has S t || (not (held t) || b))

  -- one round of removals
  unfoldable pub round : Slots → Slots
  round S = tabulate N (λ s. let c = clears S s in has S s && c)

  -- rounds until one removes nothing
  unfoldable pub settle : ℕ → Slots → Slots
  settle zero S = S
  settle (suc k) S =
      let R = round S in
      let on = settle k R in
      cond (eqb (count N (has R)) (count N (has S))) S on

  unfoldable pub largest : Slots
  largest = settle N (tabulate N (λ s. held s && fit s))

-- the set that a controller of n applies, with this buffer
unfoldable pub applicable : ℕ → List Pending → Slots
applicable n P = largest capacity (in_buffer P) (candidate n P) (precedes n P)

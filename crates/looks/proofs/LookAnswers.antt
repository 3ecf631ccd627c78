-- What questions 4 and 8 give: the controller that is looked at has a place in the array.
use native.Mathlib.Omega.{arith}
use Rattle.std.proofs.Common.{◌≡◌, ℕ, ◌-◌, ◌≤◌, ◌<◌, true, leb-true, ltb-true}
use Rattle.lists.proofs.Tests.{and_left, and_right}
use Rattle.model.specs.Tables.{seats}
use Rattle.model.specs.Fair.{named}
use Rattle.model.specs.WellFormed.{well_formed}
use Rattle.model.specs.declared.Table.{Table}
use Rattle.model.proofs.Tested.{facts}

pub seated : (t : Table) (c : ℕ) → well_formed t ≡ true → named t.n c ≡ true → (1 ≤ c) × (c - 1 < seats)
unfolding named
seated t c w e =
    let low : 0 < c = ltb-true 0 c (and_left _ _ e) in
    let high : c ≤ t.n = leb-true c t.n (and_right _ _ e) in
    (omega (arith, low), omega (arith, high, (facts t w).few))

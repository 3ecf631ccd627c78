-- What questions 4 and 8 give: both controllers of a pair have places in the array. Assumes nothing.
use mathlib.Core.Path.{◌≡◌}
use mathlib.Core.Bool.{true, ◌&&◌}
use Prim.Native.Nat.{◌≤◌, ◌<◌}
use native.Mathlib.Omega.{arith}
use Rattle.lists.proofs.Tests.{and_left, and_right}
use Rattle.model.specs.Tables.{seats, capacity, at}
use Rattle.model.specs.Fair.{named}
use Rattle.model.specs.Facts.{Among}
use Rattle.model.specs.WellFormed.{well_formed}
use Rattle.model.specs.declared.Pair.{Pair}
use Rattle.model.specs.declared.Table.{Table}
use Rattle.model.proofs.Tested.{named-at, facts}
use Rattle.supervisor.specs.Supervised.{Bounded}
use Rattle.supervisor.proofs.ActCounts.{reads_bounded}

module _ (t : Table) (p : Pair) (f : well_formed t ≡ true) (e : (named t.n p.receiver && named t.n p.owner) ≡ true) where
  receiver_named : Among t.n p.receiver
  receiver_named = named-at t p.receiver (and_left _ _ e)

  owner_named : Among t.n p.owner
  owner_named = named-at t p.owner (and_right (named t.n p.receiver) _ e)

  pub receiver_some : 0 < p.receiver
  receiver_some = receiver_named.low

  pub owner_some : 0 < p.owner
  owner_some = owner_named.low

  pub receiver_low : p.receiver ≤ seats
  receiver_low = omega (arith, receiver_named.high, (facts t f).few)

  pub owner_low : p.owner ≤ seats
  owner_low = omega (arith, owner_named.high, (facts t f).few)

  pub countable : (t.n ≤ seats) × (t.count ≤ capacity) × Bounded t.n (at t p.receiver).read
  countable = let w = facts t f in (w.few, w.fitting, reads_bounded t w p.receiver receiver_named)

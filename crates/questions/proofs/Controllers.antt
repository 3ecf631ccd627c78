-- What the questions find past the last controller of the array: zeros. Assumes nothing.
use mathlib.Core.Path.{◌≡◌}
use mathlib.Core.Bool.{true}
use mathlib.Core.List.{List}
use Prim.Native.Nat.{ℕ, ◌≤◌}
use native.Mathlib.Omega.{arith}
use lib.ListN.{length, get_or, get_or-eq_default}
use lib.Dec.{leb}
use borrow.Author.Tests.{le-leb}
use Rattle.model.specs.Tables.{seats, no_controller}
use Rattle.model.specs.declared.Controller.{Controller}

module _ (C : List Controller) (l : length C ≡ seats) where
  pub read_past : (i : ℕ) → seats ≤ i → (o k : ℕ) → leb (get_or (get_or C i no_controller).read o 0) k ≡ true
  read_past i h o k =
      let e : get_or C i no_controller ≡ no_controller = get_or-eq_default C no_controller (omega arith) in
      rw e (le-leb 0 k (omega arith))

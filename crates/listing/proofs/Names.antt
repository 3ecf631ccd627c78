-- What owning an array of names tells: it has its type's length, and the names' numbers are bytes. Assumes nothing.
use mathlib.Core.Path.{◌≡◌}
use mathlib.Core.List.{List, [], ◌∷◌}
use native.Mathlib.Omega.{arith}
use lib.ListN.{length}
use mir.Val.{Val}
use denote.Shadow.{shadow}
use denote.Laws.{Is}
use denote.Array.{Array, each}
use Rattle.lists.specs.Every.{Every}
use Rattle.model.specs.Tables.{capacity}
use Rattle.model.specs.declared.Name.{Name}
use Rattle.model.proofs.Lengths.{SmallName}
use Rattle.model.specs.contracts.Name as name

pub record NameArray (names : List Name) : Type 0 where
  pub size : length names ≡ capacity
  -- its numbers are bytes
  pub small : Every (SmallName 2 2) names

each_small : (ms : List Name) (us : List Val) → shadow (each Name name.the_row.own_val ms us) → Every (SmallName 2 2) ms
unfolding Every
each_small [] us e = tt
each_small (m ∷ ms) [] e = absurd e
each_small (m ∷ ms) (u ∷ us) e =
    let fields = e.0.1.1 in
    (record { sender = omega (arith, fields.0.1); number = omega (arith, fields.1.0.1.1.0.1) }, each_small ms us e.1)

pub name_array : (names : List Name) (vs : List Val) → Is (Array name.the_row capacity) names vs → NameArray names
name_array names vs owned = record { size = owned.1.0.1; small = each_small names owned.0 owned.1.1 }

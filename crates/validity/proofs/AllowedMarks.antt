-- The flags of the bytes that are good marks: one for absent, and one for each place that a log has. Assumes nothing.
use mathlib.Core.Path.{◌≡◌, refl}
use mathlib.Core.Bool.{Bool, true, false}
use mathlib.Core.List.{List, ◌∷◌, ◌++◌}
use Prim.Native.Nat.{ℕ, ◌+◌, ◌-◌, ◌<◌}
use lib.ListN.{get_or, set, replicate, drop}
use Rattle.lists.specs.Build.{tabulate_from, tabulate}
use Rattle.lists.proofs.Build.{get_d_tabulate}
use Rattle.validity.specs.Flags.{byte_count, allowed_marks}
use Rattle.model.specs.Tables.{absent, capacity}
use Rattle.model.specs.WellFormed.{good_mark}

-- one flag for 0, and then the places and absent
pub all_allowed : (F : List Bool) → F ≡ replicate capacity true → false ∷ set (F ++ drop (capacity + 1) (replicate byte_count false)) (absent - 1) true ≡ allowed_marks
unfolding good_mark tabulate tabulate_from
all_allowed F e = rw e refl

pub allowed_read : (F : List Bool) (k : ℕ) → k < byte_count → F ≡ allowed_marks → get_or F k false ≡ good_mark k
allowed_read F k h e = rw e (get_d_tabulate byte_count good_mark false k h)

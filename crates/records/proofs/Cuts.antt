-- The part of the bytes from a place on, as the code cuts it. Assumes nothing.
use mathlib.Core.Path.{◌≡◌}
use mathlib.Core.List.{List}
use Prim.Native.Nat.{ℕ, ◌-◌}
use native.Mathlib.Omega.{arith}
use lib.ListN.{length, take, drop, length-drop}
use lib.Seq.{take_all}

pub part_rest : (k : ℕ) (s : List ℕ) → take (length s - k) (drop k s) ≡ drop k s
part_rest k s = take_all (length s - k) (drop k s) (omega (arith, length-drop k s))

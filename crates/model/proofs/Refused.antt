-- No refusal has the number 0, which stands for none. Assumes nothing.
use mathlib.Core.Logic.{◌≢◌}
use native.Mathlib.Omega.{arith}
use Rattle.model.specs.Refusals.{refusal_number}
use Rattle.model.specs.declared.refusal.Refusal.{Refusal}

pub refusal_is : (r : Refusal) → refusal_number r ≢ 0
refusal_is r e = grind arith

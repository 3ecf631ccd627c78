-- `deliver` applies the whole set. The loop's invariant: the members below `slot` are applied.
use Rattle.std.proofs.Common.{◌≡◌}
use Rattle.model.specs.Handed.{all_of}
use Rattle.model.specs.Sized.{SizedController}
use Rattle.effects.specs.Conditions.{Seated}
use Rattle.effects.proofs.SetApplied.{partly}
use Rattle.effects.proofs.deliver.Given as goal

abbrev pub invariant-loop-slot : goal.invariant-loop-slot
invariant-loop-slot l = SizedController l.initial.c → Seated (all_of l.messages) → l.c ≡ partly (all_of l.messages) l.initial.c l.members l.slot

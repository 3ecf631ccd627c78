-- `settle` ends in the set applied: the loops of line 16 are followed comparison by comparison.
use Rattle.std.proofs.Common.{◌≡◌, ◌+◌, ◌*◌, ◌-◌}
use Rattle.model.specs.Tables.{entry}
use Rattle.delivery.specs.Apply.{back}
use Rattle.delivery.proofs.LargestByRemoval.{Removing}
use Rattle.delivery.proofs.settle.Given as goal

-- while the members are compared with the one taken, nothing moves but the place
abbrev pub invariant-loop-place : goal.invariant-loop-place
invariant-loop-place l =
    (l.slots ≡ l.initial.slots)
    × (l.members ≡ l.initial.members)
    × (l.others ≡ l.initial.others)
    × (l.q ≡ entry l.pending (back l.slots l.taken))
    × Removing l.n l.pending l.slots l.members l.others l.taken l.place

abbrev pub decreases-loop-place : goal.decreases-loop-place
decreases-loop-place l = l.members - l.place

abbrev pub invariant-again : goal.invariant-again
invariant-again l = Removing l.n l.pending l.slots l.members l.others l.taken l.place

-- a removal takes one from the members and gives one to the others
abbrev pub decreases-again : goal.decreases-again
decreases-again l = 2 * l.members + (l.others - l.taken)

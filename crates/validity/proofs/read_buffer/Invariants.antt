-- `read_buffer` reads a buffer once: of the first s slots, which are in it, and that their entries are good.
use Rattle.std.proofs.Common.{◌≡◌, true}
use Rattle.lists.specs.Below.{all}
use Rattle.lists.specs.Build.{over}
use Rattle.model.specs.Tables.{yes?, entry}
use Rattle.validity.specs.Flags.{good_entry}
use Rattle.validity.proofs.read_buffer.Given as goal

abbrev pub invariant-loop-s : goal.invariant-loop-s
invariant-loop-s l = (l.held ≡ over (λ x. yes? (entry l.pending x).held) l.s l.initial.held) × (true ≡ all l.s (λ x. good_entry l.run.n (entry l.pending x)))

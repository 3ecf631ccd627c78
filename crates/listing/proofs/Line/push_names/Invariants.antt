-- `push_names` appends the names. The loop's invariant: those passed are appended, and each has at most 8 bytes.
use Rattle.std.proofs.Common.{◌≡◌, ◌++◌, ◌+◌, ◌*◌, ◌≤◌, length, take}
use Rattle.model.specs.Runs.{name_fields}
use Rattle.listing.proofs.Line.push_names.Given as goal

abbrev pub invariant-loop-name : goal.invariant-loop-name
invariant-loop-name l =
    (l.self ≡ l.initial.self ++ name_fields (take l.name-index l.names)) × (length l.self ≤ length l.initial.self + 8 * l.name-index)

-- Before the loop of `push_names` no name is appended, and a turn appends one more.
use Rattle.std.proofs.Common.{arith, sym, append-nil}
use Rattle.model.specs.Runs.{name_fields}
use Rattle.listing.proofs.Lines.{part_then, fields_more}
use Rattle.listing.proofs.Line.push_names.Goals as goal

pub loop-name-init : goal.loop-name-init
unfolding name_fields
loop-name-init c = (sym (append-nil _), omega arith)

pub loop-name-preserved : goal.loop-name-preserved
loop-name-preserved c = (
  part_then _ _ _ c.loop-name.invariant.0 c.push_name.ensures.text (sym (fields_more c.args.names.now c.loop-name.name-index c.loop-name-test.true)),
  omega (arith, c.push_name.ensures.size, c.loop-name.invariant.1),
)

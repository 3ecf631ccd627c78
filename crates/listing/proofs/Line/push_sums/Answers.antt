-- `push_sums` appends both sums.
use Rattle.std.proofs.Common.{arith}
use Rattle.listing.proofs.Lines.{part_then, sums_printed}
use Rattle.listing.proofs.Line.push_sums.Goals as goal

pub returns-clause-text : goal.returns-clause-text
returns-clause-text c = part_then _ _ _ c.push_field.ensures.text c.push_field-2.ensures.text (sums_printed c.args.sums (omega arith) (omega arith))

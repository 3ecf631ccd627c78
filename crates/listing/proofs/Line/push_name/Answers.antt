-- `push_name` appends a name.
use Rattle.std.proofs.Common.{arith}
use Rattle.listing.proofs.Lines.{part_then, name_printed}
use Rattle.listing.proofs.Line.push_name.Goals as goal

pub returns-clause-text : goal.returns-clause-text
returns-clause-text c = part_then _ _ _ c.push_field.ensures.text c.push_field-2.ensures.text (name_printed c.args.name.now (omega arith) (omega arith))

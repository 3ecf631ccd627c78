-- `split_set` splits off the first set.
use Rattle.books.proofs.FirstParts.{split_one}
use Rattle.books.proofs.layout.split_set.Goals as goal

pub returns : goal.returns
returns c = split_one c.args.bytes.now c.in_ok-size.size.now c.in_ok-size.rest.now c.in_ok-size.ensures.cases.0 c.split_at_checked.result c.split_at_checked.ensures.cases

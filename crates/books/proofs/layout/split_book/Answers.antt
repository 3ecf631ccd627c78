-- `split_book` splits off the first book.
use Rattle.books.proofs.FirstParts.{split_two, no_two}
use Rattle.books.proofs.layout.split_book.Goals as goal

pub returns-in_default : goal.returns-in_default
returns-in_default c = no_two c.args.bytes.now c.in_default.len_below

pub returns : goal.returns
returns c = split_two c.args.bytes.now (c.in-len2-up.len_at_least) c.split_at_checked.result (rw c.size.ensures at c.split_at_checked.ensures.cases)

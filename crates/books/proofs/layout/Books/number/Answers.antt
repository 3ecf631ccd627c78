-- `number` counts the books, which are no more than their bytes.
use Rattle.std.proofs.Common.{inl, arith}
use Rattle.books.proofs.Chains.{book_count}
use Rattle.books.proofs.Laid.{books_few}
use Rattle.books.proofs.layout.Books.number.Goals as goal

pub count-requires-clause-fits : goal.count-requires-clause-fits
count-requires-clause-fits c = inl (omega (arith, books_few c.args.self.bytes.now, c.args.self.laid.short))

pub returns : goal.returns
returns c = book_count c.args.self c.count.result c.count.ensures.ran

-- The next book.
use Rattle.books.proofs.Laid.{books_end, books_laid, book_laid}
use Rattle.books.proofs.layout.BooksIterator.next.Goals as goal

pub returns-in_err-bytes-clause-steps : goal.returns-in_err-bytes-clause-steps
returns-in_err-bytes-clause-steps c =
    let end = books_end c.args.self.now.bytes.now c.args.self.now.laid c.in_err-bytes.ensures in
    rw c.from_residual.ensures (end, end)

pub invariant_of-self : goal.invariant_of-self
invariant_of-self c = record { laid = books_laid _ _ _ c.in_ok-bytes.ensures c.args.self.now.laid }

pub invariant_of-result : goal.invariant_of-result
invariant_of-result c = record { laid = book_laid _ _ _ c.in_ok-bytes.ensures c.args.self.now.laid }

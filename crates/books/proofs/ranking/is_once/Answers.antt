-- `is_once` asks whether a book has ranks.
use Rattle.std.proofs.Common.{◌∙◌}
use Rattle.model.specs.Books.{book_in}
use Rattle.books.proofs.Placed.{once_asked}
use Rattle.books.proofs.ranking.is_once.Goals as goal

pub returns : goal.returns
returns c = c.is_some.ensures ∙ once_asked (book_in c.args.book.bytes.now) c.of_book.result c.of_book.ensures

-- `agrees` compares a panel with the panel of a book.
use Rattle.std.proofs.Common.{◌∙◌}
use Rattle.model.specs.Books.{names, book_in}
use Rattle.books.specs.Ranks.{ranks_agree, ranks_of}
use Rattle.books.proofs.Placed.{some_asked, none_asked}
use Rattle.books.proofs.ranking.agrees.Goals as goal

pub returns-in-Some : goal.returns-in-Some
returns-in-Some c =
    c.agree.ensures
    ∙ some_asked (book_in c.args.book.bytes.now) c.of_book.result c.of_book.ensures c.in-Some.other c.in-Some.is (ranks_agree (names c.args.sent.bytes.now) c.args.one.now.0)

pub returns-in-None : goal.returns-in-None
returns-in-None c =
    none_asked (book_in c.args.book.bytes.now) c.of_book.result c.of_book.ensures c.in-None.is
    (ranks_agree (names c.args.sent.bytes.now) c.args.one.now.0 (ranks_of (book_in c.args.book.bytes.now)))

-- `all_agree` compares each panel with all that follow.
use Rattle.model.specs.Books.{book_in, books_in}
use Rattle.books.proofs.Placed.{agree_none, agree_stop, agree_go, agree_end}
use Rattle.books.proofs.ranking.all_agree.Goals as goal

pub returns-in_default-of_book : goal.returns-in_default-of_book
returns-in_default-of_book c once =
    absurd (agree_none _ _ _ (c.loop-book.invariant once) (book_in c.in-Some.book.bytes.now) (books_in c.next.new.self.bytes.now) c.in-Some.ensures.steps
    c.of_book.result c.of_book.ensures c.in_default-of_book.is)

pub returns-then-not-agree_with : goal.returns-then-not-agree_with
returns-then-not-agree_with c once =
    agree_stop _ _ _ (c.loop-book.invariant once) (book_in c.in-Some.book.bytes.now) (books_in c.next.new.self.bytes.now) c.in-Some.ensures.steps
    c.of_book.result c.of_book.ensures c.in-Some-of_book.one c.in-Some-of_book.is c.agree_with.result c.agree_with.ensures c.if-not-agree_with.true

pub loop-book-preserved : goal.loop-book-preserved
loop-book-preserved c once =
    agree_go _ _ _ (c.loop-book.invariant once) (book_in c.in-Some.book.bytes.now) (books_in c.next.new.self.bytes.now) c.in-Some.ensures.steps
    c.of_book.result c.of_book.ensures c.in-Some-of_book.one c.in-Some-of_book.is c.agree_with.result c.agree_with.ensures c.if-not-agree_with.false

pub returns : goal.returns
returns c once = agree_end _ _ _ (c.loop-book.invariant once) c.in_default.ensures.steps.0

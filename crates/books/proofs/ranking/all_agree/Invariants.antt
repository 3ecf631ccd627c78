-- `all_agree` compares each panel with all that follow. The loop's invariant: those passed agree with all.
use Rattle.std.proofs.Common.{◌≡◌, true}
use Rattle.lists.specs.Every.{every}
use Rattle.model.specs.Books.{names, books_in}
use Rattle.books.specs.Ranks.{once_by_ranks}
use Rattle.books.proofs.Placed.{Remaining}
use Rattle.books.proofs.ranking.all_agree.Given as goal

abbrev pub invariant-loop-book : goal.invariant-loop-book
invariant-loop-book l =
    every once_by_ranks (books_in l.fn.books.bytes.now) ≡ true → Remaining (names l.sent.bytes.now) (books_in l.fn.books.bytes.now) (books_in l.books.bytes.now)

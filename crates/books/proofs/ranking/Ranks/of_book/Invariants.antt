-- `of_book` gives the messages of a book the ranks of their sets. The loop's invariant: those of the sets passed have theirs.
use Rattle.std.proofs.Common.{◌≡◌, ◌+◌, ◌≤◌, length}
use Rattle.model.specs.Books.{book_in}
use Rattle.books.specs.Ranks.{lacking, place_book, unranked}
use Rattle.books.proofs.ranking.Ranks.of_book.Given as goal

abbrev pub invariant-loop-rank : goal.invariant-loop-rank
invariant-loop-rank l = record {
  can : (goal.iterator-loop-rank).can_next l.rank-iterator;
  finite : (goal.iterator-loop-rank).is_finite l.rank-iterator;
  few : l.rank-iterator.count + length (book_in l.rank-iterator.iter.bytes.now) ≤ lacking;
  placed : place_book 0 (book_in l.book.bytes.now) unranked ≡ place_book l.rank-iterator.count (book_in l.rank-iterator.iter.bytes.now) l.ranks.0;
}

-- `read` tests the books. The loop's invariant: those passed are good. The measure is how many bytes are left.
use Rattle.std.proofs.Common.{◌≡◌, ◌≤◌, length}
use Rattle.model.specs.Questions.{longest_file}
use Rattle.model.specs.Books.{good_book}
use Rattle.books.proofs.Laid.{Pass}
use Rattle.books.proofs.layout.Books.read.Given as goal

abbrev pub invariant-loop-left : goal.invariant-loop-left
invariant-loop-left l = record {
  passed : Pass 2 good_book l.bytes ≡ Pass 2 good_book l.left;
  short : length l.left ≤ longest_file;
}

abbrev pub decreases-loop-left : goal.decreases-loop-left
decreases-loop-left l = length l.left

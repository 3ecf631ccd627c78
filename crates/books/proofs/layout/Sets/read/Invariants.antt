-- `read` tests the sets of a book. The loop's invariant: those passed are good. The measure is how many bytes are left.
use Rattle.std.proofs.Common.{◌≡◌, length}
use Rattle.model.specs.Books.{good_book}
use Rattle.books.proofs.layout.Sets.read.Given as goal

abbrev pub invariant-loop-left : goal.invariant-loop-left
invariant-loop-left l = good_book l.bytes ≡ good_book l.left

abbrev pub decreases-loop-left : goal.decreases-loop-left
decreases-loop-left l = length l.left

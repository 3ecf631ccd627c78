-- `place` gives messages a rank. The loop's invariant: those passed have it.
use Rattle.std.proofs.Common.{◌≡◌}
use Rattle.model.specs.Books.{names}
use Rattle.books.specs.Ranks.{place_names}
use Rattle.books.proofs.ranking.Ranks.place.Given as goal

abbrev pub invariant-loop-name : goal.invariant-loop-name
invariant-loop-name l = record {
  can : (goal.iterator-loop-name).can_next l.name-iterator;
  finite : (goal.iterator-loop-name).is_finite l.name-iterator;
  placed : place_names l.rank (names l.messages.bytes.now) l.fn.self.0 ≡ place_names l.rank (names l.name-iterator.bytes.now) l.self.0;
}

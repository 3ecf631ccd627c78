-- `place` gives messages a rank.
use Rattle.model.specs.Books.{names}
use Rattle.books.proofs.Placed.{place_stop}
use Rattle.books.proofs.ranking.Ranks.place.Goals as goal

pub returns-then-self-code : goal.returns-then-self-code
returns-then-self-code c =
    place_stop _ c.args.rank (names c.loop-name.name-iterator.bytes.now) c.loop-name.self.0 c.loop-name.invariant.placed c.in-Some.name
    (names c.next.new.self.bytes.now) c.in-Some.ensures.steps c.code-code.result c.code-code.ensures.is c.if-self-code.true

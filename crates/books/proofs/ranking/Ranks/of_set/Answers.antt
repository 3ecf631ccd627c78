-- `of_set` gives messages rank 0.
use Rattle.std.proofs.Common.{◌∙◌}
use Rattle.model.specs.Books.{names}
use Rattle.books.proofs.Placed.{set_made}
use Rattle.books.proofs.ranking.Ranks.of_set.Goals as goal

pub returns : goal.returns
returns c =
    c.then_some.ensures
    ∙ set_made (names c.args.messages.bytes.now) c.new-ranks.result.0 c.new-ranks.ensures
    c.place.result c.place.new.self c.place.ensures

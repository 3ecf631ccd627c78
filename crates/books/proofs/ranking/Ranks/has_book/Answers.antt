-- `has_book` tests each set.
use Rattle.std.proofs.Common.{rules, ◌∙◌}
use borrow.Author.Tests.{tests}
use Rattle.lists.specs.Every.{every}
use Rattle.model.specs.Books.{book_in}
use Rattle.books.specs.Ranks.{ranked}
use Rattle.books.proofs.Chains.{every_set}
use Rattle.books.proofs.Placed.{ranked_sets}
use Rattle.books.proofs.ranking.Ranks.has_book.Goals as goal

pub returns : goal.returns
returns c =
    every_set (λ ms. every (ranked c.args.self.now.0) ms) c.args.book c.all.new.self _ c.all.result c.all.ensures.ran (λ x b q k. search (rules, tests))
    ∙ ranked_sets c.args.self.now.0 (book_in c.args.book.bytes.now)

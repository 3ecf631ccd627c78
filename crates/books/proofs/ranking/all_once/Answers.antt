-- `all_once` tests each book.
use Rattle.std.proofs.Common.{rules}
use borrow.Author.Tests.{tests}
use Rattle.books.specs.Ranks.{once_by_ranks}
use Rattle.books.proofs.Chains.{every_book}
use Rattle.books.proofs.ranking.all_once.Goals as goal

pub returns : goal.returns
returns c = every_book once_by_ranks c.args.books c.all.new.self _ c.all.result c.all.ensures.ran (λ x b q k. search (rules, tests))

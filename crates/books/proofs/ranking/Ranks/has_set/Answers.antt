-- `has_set` tests each message.
use Rattle.std.proofs.Common.{rules}
use borrow.Author.Tests.{tests}
use Rattle.books.specs.Ranks.{ranked}
use Rattle.books.proofs.Chains.{every_name}
use Rattle.books.proofs.ranking.Ranks.has_set.Goals as goal

pub returns : goal.returns
returns c = every_name (ranked c.args.self.now.0) c.args.set c.all.new.self _ c.all.result c.all.ensures.ran (λ x b q k. search (rules, tests))

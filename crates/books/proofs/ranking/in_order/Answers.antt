-- `in_order` tests the messages sent against two ranks.
use Rattle.std.proofs.Common.{rules, not, ltb, ◌&&◌}
use borrow.Author.Tests.{tests}
use Rattle.books.specs.Ranks.{in_order, rank_of}
use Rattle.books.proofs.Chains.{every_name}
use Rattle.books.proofs.ranking.in_order.Goals as goal

pub returns : goal.returns
unfolding in_order
returns c =
    every_name (λ b. not (ltb c.args.x (rank_of c.args.one.now.0 b) && ltb (rank_of c.args.other.now.0 b) c.args.y)) c.args.sent c.all.new.self _ c.all.result c.all.ensures.ran
    (λ x b q k. search (rules, tests))

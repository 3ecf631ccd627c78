-- `agree` compares two panels at all messages sent.
use Rattle.std.proofs.Common.{rules}
use borrow.Author.Tests.{tests}
use Rattle.model.specs.Books.{names}
use Rattle.books.specs.Ranks.{in_order, rank_of, ranks_agree}
use Rattle.books.proofs.Chains.{every_name}
use Rattle.books.proofs.ranking.agree.Goals as goal

pub returns : goal.returns
unfolding ranks_agree
returns c =
    let R = c.args.one.now.0 in
    let Q = c.args.other.now.0 in
    every_name (λ a. in_order R Q (names c.args.sent.bytes.now) (rank_of R a) (rank_of Q a)) c.args.sent c.all.new.self _ c.all.result c.all.ensures.ran
    (λ x b q k. search (rules, tests))

-- `all_sent` tests each book.
use Rattle.std.proofs.Common.{rules}
use borrow.Author.Tests.{tests}
use Rattle.books.specs.Ranks.{book_ranked}
use Rattle.books.proofs.Chains.{every_book}
use Rattle.books.proofs.ranking.all_sent.Goals as goal

pub returns : goal.returns
returns c = every_book (book_ranked c.args.sent.now.0) c.args.books c.all.new.self _ c.all.result c.all.ensures.ran (λ x b q k. search (rules, tests))

-- `agree_with` compares a panel with each of the others.
use Rattle.std.proofs.Common.{rules, ◌&&◌, ◌∙◌}
use borrow.Author.Tests.{tests}
use Rattle.model.specs.Books.{names, books_in}
use Rattle.books.specs.Ranks.{once_by_ranks, ranks_agree, ranks_of}
use Rattle.books.proofs.Chains.{every_book}
use Rattle.books.proofs.Placed.{agree_all}
use Rattle.books.proofs.ranking.agree_with.Goals as goal

pub returns : goal.returns
returns c once =
    let ms = names c.args.sent.bytes.now in
    let R = c.args.one.now.0 in
    every_book (λ p. once_by_ranks p && ranks_agree ms R (ranks_of p)) c.args.others c.all.new.self _ c.all.result c.all.ensures.ran (λ x b q k. search (rules, tests))
    ∙ agree_all ms R (books_in c.args.others.bytes.now) once

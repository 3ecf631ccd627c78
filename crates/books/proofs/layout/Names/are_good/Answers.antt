-- `are_good` tests each message.
use Rattle.std.proofs.Common.{rules, sym, ◌∙◌}
use borrow.Author.Tests.{tests, ne_eqb}
use Rattle.books.proofs.Chains.{every_name}
use Rattle.books.proofs.Laid.{good_name, even-names, odd-names}
use Rattle.books.proofs.layout.Names.are_good.Goals as goal

pub returns-then-self-eq0 : goal.returns-then-self-eq0
returns-then-self-eq0 c =
    every_name good_name c.args.self c.all.new.self _ c.all.result c.all.ensures.ran (λ x b q k. search (rules, tests))
    ∙ even-names c.args.self.bytes.now c.if-self-eq0.true

pub returns-else-self-eq0 : goal.returns-else-self-eq0
returns-else-self-eq0 c = ne_eqb _ _ c.if-self-eq0.false ∙ sym (odd-names c.args.self.bytes.now c.if-self-eq0.false)

-- What the test finds, as the definition has it: the readers past the last have read nothing.
use Rattle.std.proofs.Common.{rules, tests, ◌∙◌}
use Rattle.std.proofs.lemmas.Iterator.{YieldsList-from_slice, YieldsList-from_take}
use Rattle.std.proofs.lemmas.Iterator.Consumers.{YieldsList-at}
use Rattle.std.proofs.lemmas.Iterator.Search.{all_from_yields_List}
use Rattle.questions.proofs.Messages.{none_sent_past}
use Rattle.questions.proofs.none_past.Goals as goal

pub returns : goal.returns
returns c =
    all_from_yields_List _ c.all.new.self _ _ c.all.ensures.ran
    (YieldsList-from_take c.args.n (YieldsList-at c.take.ensures.source (YieldsList-from_slice c.args.controllers.now cc)) (cc))
    (λ x b q k. search (rules, tests))
    ∙ none_sent_past c.args.controllers.now c.told-controllers c.args.n c.args.o c.args.k

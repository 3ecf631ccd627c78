-- What the search finds, as the definition has it.
use Rattle.std.proofs.Common.{rules, tests, ◌∙◌, take, min}
use Rattle.std.proofs.lemmas.Iterator.{YieldsList-from_slice, YieldsList-from_zip}
use Rattle.std.proofs.lemmas.Iterator.Search.{any_from_yields_List}
use Rattle.model.specs.Tables.{capacity}
use Rattle.model.specs.Handed.{all_of}
use Rattle.questions.proofs.Messages.{own_sent}
use Rattle.questions.proofs.own_pending.Goals as goal

pub returns : goal.returns
returns c =
    any_from_yields_List _ c.any.new.self _ _ c.any.ensures.ran
    (YieldsList-from_zip (YieldsList-from_slice (take (min c.args.messages.count capacity) c.args.messages.slots.now) cc) (YieldsList-from_slice c.args.pending.now cc))
    (λ x b q k. search (rules, tests))
    ∙ own_sent (all_of c.args.messages) c.sent.ensures.whole c.args.pending.now c.told-pending c.args.c

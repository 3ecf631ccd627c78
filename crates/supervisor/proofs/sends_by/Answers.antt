-- The count of the messages of one sender.
use Rattle.std.proofs.Common.{rules, tests, take, min, ◌∙◌}
use Rattle.std.proofs.lemmas.Iterator.{YieldsList-from_slice}
use Rattle.std.proofs.lemmas.Iterator.Consumers.{YieldsList-at, YieldsList-from_filter, count_from_yields_List}
use Rattle.model.specs.Tables.{capacity}
use Rattle.model.specs.Handed.{all_of}
use Rattle.supervisor.proofs.ActCounts.{by, sends_filtered}
use Rattle.supervisor.proofs.sends_by.Goals as goal

pub returns : goal.returns
returns c =
    count_from_yields_List c.filter.result c.count.result c.count.ensures.ran
    (YieldsList-from_filter _ (by c.args.c)
    (YieldsList-at c.filter.ensures.source (YieldsList-from_slice (take (min c.args.messages.count capacity) c.args.messages.slots.now) cc))
    c.filter.ensures.closure (λ x b q k. search (rules, tests)))
    ∙ sends_filtered (all_of c.args.messages) c.args.c c.requires c.sent.ensures.whole

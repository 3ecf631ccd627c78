-- `finishes` searches the members for a sync of c; past the 64th slot there are none.
use Rattle.std.proofs.Common.{rules, tests, ◌∙◌}
use Rattle.std.proofs.lemmas.Iterator.{YieldsList-from_slice, YieldsList-from_zip}
use Rattle.std.proofs.lemmas.Iterator.Search.{any_from_yields_List}
use Rattle.totals.proofs.FinishedSync.{asked, finishes_any}
use Rattle.totals.proofs.finishes.Goals as goal

pub returns : goal.returns
returns c =
    any_from_yields_List (asked c.args.c) c.any.new.self _ _ c.any.ensures.ran
    (YieldsList-from_zip (YieldsList-from_slice c.sent.result.now cc) (YieldsList-from_slice c.args.members.now cc))
    (λ x b q k. search (rules, tests))
    ∙ rw c.sent.ensures.sent (finishes_any c.args.messages.count c.args.c c.args.messages.slots.now c.args.members.now c.sent.ensures.whole c.told-members)

-- What the search finds, as the definition has it.
use Rattle.std.proofs.Common.{rules, tests, ◌∙◌, take, min, ◌&&◌, ℕ}
use Rattle.std.proofs.lemmas.Iterator.{YieldsList-from_slice, YieldsList-from_zip}
use Rattle.std.proofs.lemmas.Iterator.Search.{any_from_yields_List}
use Rattle.model.specs.Tables.{capacity, yes?}
use Rattle.model.specs.Handed.{all_of}
use Rattle.model.specs.Questions.{is_sync, latest}
use Rattle.model.specs.declared.Message.{Message}
use Rattle.questions.proofs.Messages.{sync_sent}
use Rattle.questions.proofs.synced.Goals as goal

pub returns : goal.returns
returns c =
    any_from_yields_List (λ (m : Message × ℕ). yes? m.1 && is_sync c.args.c (latest (all_of c.args.messages) c.args.c) m.0) c.any.new.self _ _ c.any.ensures.ran
    (YieldsList-from_zip (YieldsList-from_slice (take (min c.args.messages.count capacity) c.args.messages.slots.now) cc) (YieldsList-from_slice c.args.applied.now cc))
    (λ x b q k. let e = c.latest-last.ensures in search (rules, tests))
    ∙ sync_sent (all_of c.args.messages) c.sent.ensures.whole c.args.applied.now c.told-applied c.args.c

-- The greatest number, as the definition has it.
use Rattle.std.proofs.Common.{rules, tests, ap, ◌∙◌, take, min, eqb, unwrap_or}
use Rattle.std.proofs.lemmas.Iterator.{YieldsList-from_slice, YieldsList-from_map}
use Rattle.std.proofs.lemmas.Iterator.Consumers.{YieldsList-at, YieldsList-from_filter, reduce_from_yields_List}
use Rattle.std.proofs.lemmas.List.Folds.{max_of_map}
use Rattle.std.specs.List.{filter}
use Rattle.std.specs.Ordering.{max_by_ordering, nat_cmp}
use Rattle.model.specs.Tables.{capacity}
use Rattle.model.specs.Handed.{all_of}
use Rattle.model.specs.declared.Message.{Message}
use Rattle.questions.proofs.Messages.{latest_sent}
use Rattle.questions.proofs.latest.Goals as goal

pub returns : goal.returns
returns c =
    let own = λ (m : Message). eqb m.sender c.args.c in
    let number = λ (m : Message). m.number.0 in
    c.unwrap_or.ensures
    ∙ ap (λ o. unwrap_or o 0) (reduce_from_yields_List (λ p z. max_by_ordering (nat_cmp p z) p z) _ _ c.max.ensures.ran
    (YieldsList-from_map _ number (YieldsList-at c.map.ensures.source (YieldsList-from_filter _ own (YieldsList-at c.filter.ensures.source (YieldsList-from_slice (take (min c.args.messages.count capacity) c.args.messages.slots.now) cc)) c.filter.ensures.closure (λ x r q k. search (rules, tests)))) c.map.ensures.closure (λ x r q k. search rules)))
    ∙ max_of_map number (filter own (take (min c.args.messages.count capacity) c.args.messages.slots.now)) ∙ latest_sent (all_of c.args.messages) c.sent.ensures.whole c.args.c

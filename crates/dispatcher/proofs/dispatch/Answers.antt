-- `dispatch` changes nothing where no pair is chosen, and else carries out the handover of the pair.
use Rattle.dispatcher.proofs.DispatchAnswers.{refused_answer, none_answer, chosen, served_answer}
use Rattle.dispatcher.proofs.dispatch.Goals as goal

pub returns-in-Ok-None : goal.returns-in-Ok-None
returns-in-Ok-None c =
    none_answer _ _ _ c.in-Ok-None.ensures.asked (rw c.in-Ok-None.field-0-is at c.in-Ok-None.ensures.chosen) _ c.unserved.ensures

pub returns-in-Err : goal.returns-in-Err
returns-in-Err c = refused_answer _ _ _ _ c.in-Err.ensures.asked _ (rw c.from.ensures at c.unserved-in-Err.ensures)

pub returns : goal.returns
returns c =
    let k = chosen _ _ _ _ c.in-Ok-Some.ensures.asked (rw c.in-Ok-Some.field-0-is at c.in-Ok-Some.ensures.chosen) in
    let e = c.handover-e.ensures k.receiver k.owner in
    served_answer _ _ _ _ k _ _ (rw e at c.act-done.ensures) _ (rw e at c.stored.ensures)

-- `ask` answers what the handover would apply, where no question refuses it.
use Rattle.supervisor.proofs.SupervisedAnswers.{ask_granted, ask_refused, ask_shown}
use Rattle.supervisor.proofs.ask.Goals as goal

pub returns-in-Err : goal.returns-in-Err
returns-in-Err c = ask_refused _ _ _ _ c.in-Err.ensures.refused _ c.no_preview.ensures

pub returns : goal.returns
returns c =
    let g = ask_granted _ _ c.args.scratch.now c.in-Ok.ensures.refused in
    ask_shown _ _ _ c.in-Ok.ensures.refused _ _ (rw (c.handover.ensures g.receiver g.owner) at c.act-done.ensures) _ c.in-Ok.ensures.counted

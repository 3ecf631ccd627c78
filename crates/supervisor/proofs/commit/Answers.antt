-- `commit` makes the handover where no question refuses it.
use Rattle.supervisor.proofs.SupervisedAnswers.{commit_granted, commit_refused, commit_taken}
use Rattle.supervisor.proofs.commit.Goals as goal

pub returns-in-Err : goal.returns-in-Err
returns-in-Err c = commit_refused _ _ _ _ _ c.in-Err.ensures.refused _ c.refused.ensures

pub returns : goal.returns
returns c =
    let e = c.in_default.ensures.refused in
    let g = commit_granted _ _ c.args.scratch.now _ e in
    let h = c.handover-e.ensures g.receiver g.owner in
    commit_taken _ _ _ _ e _ _ (rw h at c.act-done.ensures) _ (rw h at c.store.ensures)

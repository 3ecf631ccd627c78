-- `furnacejade_commit` leaves what a commit answers.
use Rattle.engine.proofs.Outcomes.{taken}
use Rattle.engine.proofs.furnacejade_commit.Goals as goal

pub returns : goal.returns
returns c = taken _ _ _ _ _ _ c.commit-s.ensures

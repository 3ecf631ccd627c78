-- `furnacejade_dispatch` leaves what the dispatcher answers.
use Rattle.engine.proofs.Outcomes.{dispatched}
use Rattle.engine.proofs.furnacejade_dispatch.Goals as goal

pub returns : goal.returns
returns c = dispatched _ _ _ _ _ c.dispatch-s.ensures

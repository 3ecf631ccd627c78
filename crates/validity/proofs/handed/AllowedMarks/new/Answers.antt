-- `new` flags the places of a log and absent, which are the good marks.
use Rattle.validity.proofs.AllowedMarks.{all_allowed}
use Rattle.validity.proofs.handed.AllowedMarks.new.Goals as goal

pub invariant_of-result : goal.invariant_of-result
invariant_of-result c = record { right = all_allowed _ (c.fill.ensures.after (λ y e. e)) }

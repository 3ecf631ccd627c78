-- `apply` answers and leaves what specs/Apply.antt says, whatever the length of the scratch area.
use Rattle.std.proofs.Common.{◌∙◌, arith}
use Rattle.model.specs.Tables.{scratch_size}
use Rattle.delivery.proofs.Named.{listed_taken, named_taken}
use Rattle.delivery.proofs.ApplyAnswer.{cleared-all, applied_with_room, applied_without_room}
use Rattle.delivery.proofs.apply.Goals as goal

pub returns-in_default : goal.returns-in_default
returns-in_default c = applied_without_room _ _ _ c.in_default.ensures.cases

pub set_of-members-requires : goal.set_of-members-requires
set_of-members-requires c = listed_taken _ _ c.settle-count.ensures.listed

pub returns : goal.returns
returns c =
    applied_with_room _ _ _ _ _ c.in-Some.ensures.cases.enough
    (c.set_of-members.ensures ∙ named_taken _ _ c.settle-count.ensures.listed ∙ c.settle-count.ensures.set)
    (cleared-all _ _ _ scratch_size (omega (arith, c.in-Some.ensures.cases.enough)) c.settle-count.array_long (c.fill.ensures.after (λ y e. e)))

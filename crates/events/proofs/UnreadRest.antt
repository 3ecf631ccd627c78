-- The part of the caller's bytes after those used is the rest that the event call answers: all of them where it is refused.
-- Assumes nothing.
use mathlib.Core.Path.{◌≡◌, refl}
use mathlib.Core.List.{List, ◌∷◌}
use Prim.Native.Nat.{ℕ}
use lib.ListN.{drop}
use borrow.Author.Tests.{ne_eqb}
use Rattle.model.specs.Records.{after_record, decode}
use Rattle.model.specs.Questions.{first_no, lent_table, step_questions}
use Rattle.model.specs.Calls.{Outcome, accepted, refused, event}
use Rattle.model.specs.declared.Table.{Table}
use Rattle.model.proofs.Steps.{answering-accepted, answering_rest, settled_case}
use Rattle.events.specs.Stepped.{stepped_of}

pub rest_handed_back : (t : Table) (s : List ℕ) (room : ℕ) → drop (stepped_of (event t s room) s).used s ≡ (event t s room).answer.rest
unfolding event stepped_of accepted refused after_record
rest_handed_back t s room =
    let k = first_no (lent_table t ∷ step_questions t s room) in
    settled_case (λ (o : Outcome). drop (stepped_of o s).used s ≡ o.answer.rest) t s k
    (λ _. rw (answering-accepted t (decode t.version s) (after_record s), answering_rest t (decode t.version s) (after_record s)) refl) (λ n. rw (ne_eqb k 0 n) refl)

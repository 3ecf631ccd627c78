-- What each call puts in a list is a course from the table that it gets to the one that it leaves: one law for each kind of call. Assumes
-- nothing.
use mathlib.Core.Path.{◌≡◌, refl}
use mathlib.Core.List.{List, [], ◌∷◌, foldl}
use lib.ListN.{length}
use borrow.Author.Tests.{ne_eqb}
use Rattle.model.specs.Events.{next}
use Rattle.model.specs.Calls.{Outcome, answering, refused}
use Rattle.turns.specs.Dispatcher.{handover, Dispatched, DispatchOutcome, with_handover, with_none, dispatch}
use Rattle.previews.specs.Previews.{taking}
use Rattle.model.specs.declared.Table.{Table}
use Rattle.turns.proofs.Dispatching.{dispatch_case}
use Rattle.previews.proofs.AcceptedCalls.{commit_case, commit_asked}
use Rattle.consistency.specs.Entries.{Service, dispatching, committing, serve, made_by, Call, single_event, observing, serving, handed_over, entries_of, left, transcript}
use Rattle.consistency.specs.Courses.{Course, told, Chooses, Gives, Allowed}
use Rattle.consistency.proofs.Moments.{course_append}

-- handovers that are allowed where they are made
pub handovers_course : (s : Service) (t : Table) (xs : List Dispatched) (u : Table) → Allowed s t xs u → Course told Gives t (handed_over s xs) u
unfolding Course told Allowed
handovers_course s t [] u a = a
handovers_course s t (x ∷ xs) u a = (a.0, handovers_course s (next t (handover x.pair)) xs u a.1)

-- a served call makes no others, and they lead to the table that it leaves: here each of them has its case
serve_allowed : (t : Table) (s : Service) → Allowed s t (made_by s (serve t s).answer) (serve t s).table
unfolding serve made_by with_handover with_none taking answering refused Allowed Gives Chooses
serve_allowed t (dispatching p w) =
    dispatch_case t p (length w)
    (λ (o : DispatchOutcome). o.answer.pair ≡ (dispatch t p (length w)).answer.pair → Allowed (dispatching p w) t (made_by (dispatching p w) o.answer) o.table)
    (λ s e. rw s.some ((s.allowed, refl, e), refl)) (λ _ _. refl) refl
serve_allowed t (committing p k w) =
    commit_case t p (length w) k (λ (o : Outcome). Allowed (committing p k w) t (made_by (committing p k w) o.answer) o.table)
    (λ e. (((commit_asked t p (length w) k e).1, refl, refl), refl)) (λ d. rw (ne_eqb _ 0 d) refl)

pub call_course : (t : Table) (c : Call) → Course told Gives t (entries_of t c) (left t c)
unfolding Course told Gives entries_of left
call_course t (single_event s w) = (refl, refl)
call_course t (observing o) = (refl, refl)
call_course t (serving s) = (refl, handovers_course s t (made_by s (serve t s).answer) (serve t s).table (serve_allowed t s))

pub transcript_course : (t : Table) (cs : List Call) → Course told Gives t (transcript t cs) (foldl left t cs)
unfolding Course transcript
transcript_course t [] = refl
transcript_course t (c ∷ cs) =
    course_append told Gives t (entries_of t c) (left t c) (transcript (left t c) cs) (foldl left (left t c) cs) (call_course t c) (transcript_course (left t c) cs)

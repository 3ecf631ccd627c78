-- Ask and commit beside the event call, on every table: an ask shows what the handover's record would answer, a commit with the receiver's
-- act count does what that record would, and one with another count is refused. Assumes nothing.
use mathlib.Core.Path.{◌≡◌, refl, sym, ap, subst}
use mathlib.Core.Logic.{◌≢◌}
use mathlib.Core.Bool.{Bool, true, false, cond}
use mathlib.Core.List.{[], ◌∷◌}
use Prim.Native.Nat.{ℕ}
use lib.Dec.{eqb}
use borrow.Author.Tests.{eq-eqb, ne_eqb}
use Rattle.model.specs.Events.{resulting}
use Rattle.model.specs.Records.{size_of, after_record, decode}
use Rattle.model.specs.Questions.{ask, first_no, lent_table, kind_questions, record_questions, handover_questions, event_questions, command_questions, scratch_room, step_questions}
use Rattle.model.specs.Calls.{Outcome, answering, accepted, refused, settled, event, answer_of}
use Rattle.model.proofs.Steps.{settled_case}
use Rattle.turns.specs.Claims.{handover_record}
use Rattle.model.specs.declared.Pair.{Pair}
use Rattle.model.specs.declared.Table.{Table}
use Rattle.previews.specs.Previews.{acts_of, ask_questions, preview_of, preview, commit_questions, taking, commit}
use Rattle.previews.proofs.AcceptedCalls.{preview_refusal, commit_case}
use Rattle.previews.specs.Claims.{Shows, Matches, stale_number}

-- where 21 is a no, the questions before it decide as they do without it
outdated : (t : Table) (o : Outcome) (table named runs unread room : Bool)
    → let k = first_no (ask 4 table ∷ ask 8 named ∷ ask 10 runs ∷ ask 21 false ∷ ask 13 unread ∷ ask 15 room ∷ []) in
    let j = first_no (ask 4 table ∷ ask 8 named ∷ ask 10 runs ∷ ask 13 unread ∷ ask 15 room ∷ []) in
    cond (eqb k 0) o (refused t [] k) ≡ refused t [] (stale_number j)
unfolding first_no stale_number
outdated t o false b c d e = refl
outdated t o true false c d e = refl
outdated t o true true false d e = refl
outdated t o true true true false e = refl
outdated t o true true true true false = refl
outdated t o true true true true true = refl

module _ (t : Table) (p : Pair) (room : ℕ) where
  -- what ask is asked is what the record of the handover is asked
  abbrev asked : ℕ
  asked = first_no (ask_questions t p room)

  record_asked : first_no (lent_table t ∷ step_questions t (handover_record p) room) ≡ asked
  unfolding first_no step_questions record_questions kind_questions size_of decode command_questions ask_questions
  record_asked = refl

  record_settled : event t (handover_record p) room ≡ settled t (handover_record p) asked
  unfolding event
  record_settled = ap (settled t (handover_record p)) record_asked

  -- ASK

  pub ask_is_record : Shows (preview t p room) (event t (handover_record p) room)
  unfolding preview preview_of accepted refused answering decode
  ask_is_record =
      subst (Shows (preview t p room)) (sym record_settled) (settled_case (λ (o : Outcome). Shows (preview t p room) o) t (handover_record p) asked
      (λ e. rw (eq-eqb asked 0 e) (record { refusal = refl; names = refl; scratch = λ w. refl }))
      (λ n. rw (ne_eqb asked 0 n) (record { refusal = refl; names = refl; scratch = λ w. refl })))

  -- COMMIT

  own_asked : first_no (commit_questions t p (acts_of t p.receiver) room) ≡ asked
  unfolding first_no commit_questions ask_questions event_questions handover_questions
  own_asked = rw (eq-eqb (acts_of t p.receiver) (acts_of t p.receiver) refl) refl

  pub commit_is_record : Matches (commit t p (acts_of t p.receiver) room) (event t (handover_record p) room)
  unfolding commit taking accepted refused answering decode resulting answer_of after_record
  commit_is_record =
      subst (Matches (commit t p (acts_of t p.receiver) room)) (sym record_settled) (settled_case (λ (o : Outcome). Matches (commit t p (acts_of t p.receiver) room) o) t (handover_record p) asked
      (λ e. rw (own_asked, eq-eqb asked 0 e) (record { answer = refl; table = refl; scratch = λ w. refl }))
      (λ n. rw (own_asked, ne_eqb asked 0 n) (record { answer = refl; table = refl; scratch = λ w. refl })))

  module _ (acts : ℕ) where
    -- a refusal is its number, and nothing else
    pub commit_refused : (commit t p acts room).answer.refusal ≢ 0 → commit t p acts room ≡ refused t [] (commit t p acts room).answer.refusal
    unfolding taking answering refused
    commit_refused = commit_case t p room acts (λ (o : Outcome). o.answer.refusal ≢ 0 → o ≡ refused t [] o.answer.refusal) (λ _ n. absurd (n refl)) (λ _ _. refl)

    -- with another count
    pub commit_stale : acts ≢ acts_of t p.receiver → commit t p acts room ≡ refused t [] (stale_number (preview t p room).refusal)
    unfolding commit commit_questions ask_questions event_questions handover_questions lent_table scratch_room
    commit_stale n = rw (preview_refusal t p room, ne_eqb acts (acts_of t p.receiver) n) (outdated t (taking t p) _ _ _ _ _)

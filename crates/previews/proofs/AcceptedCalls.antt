-- What it says of the table that no question refuses an ask or a commit, and what both then answer. Assumes nothing.
use mathlib.Core.Path.{◌≡◌, refl, sym, ◌∙◌}
use mathlib.Core.Logic.{◌≢◌}
use mathlib.Core.Bool.{Bool, true, cond}
use mathlib.Core.List.{[], ◌∷◌}
use Prim.Native.Nat.{ℕ, ◌≤◌}
use lib.Dec.{eqb}
use borrow.Author.Tests.{eq-eqb, eqb-true, eqb-false, le-leb}
use Rattle.lists.proofs.Tests.{cond_case, cond_true}
use Rattle.model.specs.Tables.{scratch_size, yes?, at}
use Rattle.model.specs.WellFormed.{well_formed}
use Rattle.model.specs.Questions.{ask, first_no, lent_table, unread, handover_questions, event_questions, scratch_room}
use Rattle.model.specs.Calls.{Outcome, answering, refused}
use Rattle.turns.specs.Dispatcher.{handover}
use Rattle.model.specs.declared.Pair.{Pair}
use Rattle.model.specs.declared.Table.{Table}
use Rattle.model.proofs.Tested.{named_of}
use Rattle.turns.specs.Claims.{InRange}
use Rattle.model.proofs.Allowed.{no_no, no_no_append, event_numbered}
use Rattle.previews.specs.Previews.{acts_of, ask_questions, Preview, preview_of, preview, commit_questions, taking, commit}

-- the questions of a handover, all answered yes
all_yes : (a b c : Bool) → a ≡ true → b ≡ true → c ≡ true → first_no (ask 8 a ∷ ask 10 b ∷ ask 13 c ∷ []) ≡ 0
unfolding first_no
all_yes a b c x y z = rw (x, y, z) refl

module _ (t : Table) (p : Pair) (room : ℕ) where
  -- ASK

  pub preview_refusal : (preview t p room).refusal ≡ first_no (ask_questions t p room)
  unfolding preview preview_of
  preview_refusal = let k = first_no (ask_questions t p room) in cond_case (λ (a : Preview). a.refusal ≡ k) (eqb k 0) _ _ (λ e. sym (eqb-true k 0 e)) (λ _. refl)

  -- an accepted ask: the handover is allowed, and its set is shown
  pub ask-accepted : (preview t p room).refusal ≡ 0 → (first_no (event_questions t (handover p)) ≡ 0) × (preview t p room ≡ preview_of t p)
  unfolding preview ask_questions lent_table
  ask-accepted z =
      let k : first_no (ask_questions t p room) ≡ 0 = sym preview_refusal ∙ z in
      ((no_no_append (event_numbered t (handover p)) _ (no_no 3 (well_formed t) _ k).1).0, cond_true _ _ (eq-eqb _ 0 k))

  -- COMMIT

  module _ (acts : ℕ) where
    pub commit_case : (P : Outcome → Type 0)
        → let k = first_no (commit_questions t p acts room) in
        (k ≡ 0 → P (taking t p)) → (k ≢ 0 → P (refused t [] k)) → P (commit t p acts room)
    unfolding commit
    commit_case P f g = cond_case P _ (taking t p) (refused t [] _) (λ e. f (eqb-true _ 0 e)) (λ e. g (eqb-false _ 0 e))

    pub commit_refusal : (commit t p acts room).answer.refusal ≡ first_no (commit_questions t p acts room)
    unfolding taking answering refused
    commit_refusal = commit_case (λ (o : Outcome). o.answer.refusal ≡ first_no (commit_questions t p acts room)) (λ e. sym e) (λ _. refl)

    -- where no other question refuses it, 13 decides
    pub entry_decides : well_formed t ≡ true → InRange t.n p → yes? (at t p.receiver).running ≡ true → acts ≡ acts_of t p.receiver → scratch_size ≤ room
        → first_no (commit_questions t p acts room) ≡ cond (unread (at t p.receiver) (at t p.owner) p.owner) 0 13
    unfolding first_no commit_questions lent_table scratch_room
    entry_decides f i r e enough =
        rw (f, named_of t p.receiver i.receiver, named_of t p.owner i.owner, r, eq-eqb acts (acts_of t p.receiver) e, le-leb scratch_size room enough) refl

    -- no question refuses it: the count is the receiver's, and the handover is allowed
    pub commit_asked : first_no (commit_questions t p acts room) ≡ 0 → (acts ≡ acts_of t p.receiver) × (first_no (event_questions t (handover p)) ≡ 0)
    unfolding commit_questions lent_table event_questions handover_questions
    commit_asked e =
        let q4 = no_no _ _ _ e in
        let q8 = no_no _ _ _ q4.1 in
        let q10 = no_no _ _ _ q8.1 in
        let q21 = no_no _ _ _ q10.1 in
        let q13 = no_no _ _ _ q21.1 in
        (eqb-true acts (acts_of t p.receiver) q21.0, all_yes _ _ _ q8.0 q10.0 q13.0)

    pub commit-accepted : (commit t p acts room).answer.refusal ≡ 0
        → (acts ≡ acts_of t p.receiver) × (first_no (event_questions t (handover p)) ≡ 0) × (commit t p acts room ≡ taking t p)
    unfolding commit
    commit-accepted z =
        let k : first_no (commit_questions t p acts room) ≡ 0 = sym commit_refusal ∙ z in
        let q = commit_asked k in
        (q.0, q.1, cond_true _ _ (eq-eqb _ 0 k))

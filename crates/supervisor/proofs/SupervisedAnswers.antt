-- From the number that the questions give to what ask and commit answer and leave: a refusal, or the one handover. Assumes nothing.
use mathlib.Core.Path.{◌≡◌, refl, sym, ap}
use mathlib.Core.Bool.{true}
use mathlib.Core.List.{List, [], ◌∷◌}
use Prim.Native.Nat.{ℕ, ◌≤◌}
use lib.Dec.{leb}
use lib.ListN.{length}
use borrow.Author.Tests.{leb-true, ne_eqb}
use Rattle.model.specs.Tables.{Among, seats, scratch_size}
use Rattle.model.specs.WellFormed.{well_formed}
use Rattle.model.specs.Refusals.{refusal_number}
use Rattle.model.specs.Questions.{first_no, lent_table, event_questions, scratch_room}
use Rattle.model.specs.Calls.{answering, refused, answer_of, scratch_after}
use Rattle.model.specs.declared.Pair.{Pair}
use Rattle.model.specs.declared.Table.{Table}
use Rattle.model.specs.declared.AskAnswer.{AskAnswer}
use Rattle.model.specs.declared.refusal.Refusal.{Refusal}
use Rattle.model.proofs.Tested.{facts}
use Rattle.model.proofs.Allowed.{no_no, no_no_append, event_numbered, handover_allowed}
use Rattle.model.proofs.Refused.{refusal_is}
use Rattle.invariant.proofs.Stores.{seated}
use Rattle.turns.specs.Dispatcher.{handover}
use Rattle.previews.specs.Previews.{Preview, acts_of, ask_questions, preview_of, preview, ask_answer_of, commit_questions, taking, commit}
use Rattle.previews.proofs.AcceptedCalls.{commit_asked}
use Rattle.effects.specs.declared.Effect.{Effect}
use Rattle.effects.specs.Conditions.{Accepted}
use Rattle.effects.specs.Effects.{no_set, effect_of, Effected, Acts, Stores}
use Rattle.supervisor.specs.declared.Committed.{Committed}
use Rattle.supervisor.specs.Supervised.{no_preview, unchanged, committed_of, Asks, Commits}

module _ (t : Table) (p : Pair) (w : List ℕ) where
  -- no question refuses: the handover is allowed
  pub record Granted : Type 0 where
    pub receiver : Among seats p.receiver
    pub owner : Among seats p.owner
    pub accepted : Accepted t (handover p)
    pub roomy : scratch_size ≤ length w

  granted : well_formed t ≡ true → first_no (event_questions t (handover p)) ≡ 0 → first_no (scratch_room (length w) ∷ []) ≡ 0 → Granted
  unfolding scratch_room
  granted f e r =
      let a = handover_allowed t p.receiver p.owner e in
      let few = (facts t f).few in
      record {
        receiver = seated few a.receiver;
        owner = seated few a.owner;
        accepted = (f, e);
        roomy = leb-true scratch_size (length w) (no_no 14 (leb scratch_size (length w)) [] r).0;
      }

  -- ASK

  abbrev asked : ℕ
  asked = first_no (ask_questions t p (length w))

  pub ask_granted : 0 ≡ asked → Granted
  unfolding ask_questions lent_table
  ask_granted e =
      let q4 = no_no 3 (well_formed t) _ (sym e) in
      let q = no_no_append (event_numbered t (handover p)) _ q4.1 in
      granted q4.0 q.0 q.1

  pub ask_refused : (r : Refusal) → refusal_number r ≡ asked → (a : AskAnswer) → a ≡ no_preview (refusal_number r) → Asks t p w a w
  unfolding no_preview scratch_after
  ask_refused r e a d = record { answer_is = rw is d; scratch_is = rw (is, ne_eqb (refusal_number r) 0 (refusal_is r)) refl }
    where
      is : ◌≡◌ {A = Preview} (preview t p (length w)) (record { refusal = refusal_number r; names = []; acts = 0 })
      is = unfold preview in (rw (← e, ne_eqb (refusal_number r) 0 (refusal_is r)) refl)

  pub ask_shown : 0 ≡ asked → (d : Effect) (v : List ℕ) → Acts t (handover p) w d v → (acts : ℕ) → acts ≡ acts_of t p.receiver
      → Asks t p w (record { refusal = 0; acts = acts; size = d.answer.size; names = d.answer.names }) v
  unfolding preview_of ask_answer_of effect_of answer_of scratch_after
  ask_shown e d v a acts ea = record { answer_is = rw (is, f.effect, ea) refl; scratch_is = rw is f.clear }
    where
      g : Granted
      g = ask_granted e

      f : Effected t (handover p) w d v
      f = a.effected g.accepted g.roomy

      is : preview t p (length w) ≡ preview_of t p
      is = unfold preview in (rw (← e) refl)

  -- COMMIT

  module _ (acts : ℕ) where
    abbrev put : ℕ
    put = first_no (commit_questions t p acts (length w))

    pub commit_granted : 0 ≡ put → Granted
    unfolding commit_questions lent_table
    commit_granted e =
        let q4 = no_no _ _ _ (sym e) in
        let q8 = no_no _ _ _ q4.1 in
        let q10 = no_no _ _ _ q8.1 in
        let q21 = no_no _ _ _ q10.1 in
        let q13 = no_no _ _ _ q21.1 in
        granted q4.0 (commit_asked t p (length w) acts (sym e)).1 q13.1

    pub commit_refused : (r : Refusal) → refusal_number r ≡ put → (a : Committed) → a ≡ unchanged t (refusal_number r) → Commits t p acts w a w
    unfolding committed_of unchanged refused no_set scratch_after
    commit_refused r e a d = record { outcome = rw is d; clear = rw (is, ne_eqb (refusal_number r) 0 (refusal_is r)) refl }
      where
        is : commit t p acts (length w) ≡ refused t [] (refusal_number r)
        is = unfold commit in (rw (← e, ne_eqb (refusal_number r) 0 (refusal_is r)) refl)

    pub commit_taken : 0 ≡ put → (d : Effect) (v : List ℕ) → Acts t (handover p) w d v → (x : Table) → Stores t (handover p) d.controller x
        → Commits t p acts w (record { answer = d.answer; table = x }) v
    unfolding taking committed_of answering effect_of scratch_after
    commit_taken e d v a x l = record { outcome = rw (is, f.effect, l.stored (g.accepted, ap (λ (y : Effect). y.controller) f.effect)) refl; clear = rw is f.clear }
      where
        g : Granted
        g = commit_granted e

        f : Effected t (handover p) w d v
        f = a.effected g.accepted g.roomy

        is : commit t p acts (length w) ≡ taking t p
        is = unfold commit in (rw (← e) refl)

-- What a step, an event call and a file run answer and leave, refused or not. Assumes nothing.
use mathlib.Core.Path.{◌≡◌, refl, sym, ap, ◌∙◌}
use mathlib.Core.Logic.{◌≢◌}
use mathlib.Core.Bool.{true}
use mathlib.Core.List.{List, []}
use Prim.Native.Nat.{ℕ, ◌+◌, ◌≤◌, ◌<◌}
use native.Mathlib.Omega.{arith}
use lib.ListN.{length, length-drop}
use lib.Dec.{eqb, leb, ltb}
use borrow.Author.Tests.{ltb-true, leb-true, eqb-true, eqb-false, eq-eqb}
use Rattle.lists.proofs.Tests.{cond_case, cond_true}
use Rattle.model.specs.Tables.{scratch_size}
use Rattle.model.specs.Events.{resulting}
use Rattle.model.specs.Records.{size, after_record, decode}
use Rattle.model.specs.WellFormed.{well_formed}
use Rattle.model.specs.Questions.{first_no, file_questions, lent_table, record_questions, scratch_room, step_questions}
use Rattle.model.specs.Calls.{Outcome, answering, accepted, refused, settled, step, event}
use Rattle.model.specs.Runs.{progress, ran, file_run}
use Rattle.model.specs.declared.Table.{Table}
use Rattle.model.specs.declared.Command.{Command}
use Rattle.model.specs.declared.Command.TheVariants.{Act, Read}
use Rattle.model.proofs.Allowed.{no_no, step_asked}

-- a property that the accepted outcome has where no question refuses, and the refused one where one does
pub settled_case : (P : Outcome → Type 0) (t : Table) (s : List ℕ) (k : ℕ) → (k ≡ 0 → P (accepted t s)) → (k ≢ 0 → P (refused t s k)) → P (settled t s k)
unfolding settled
settled_case P t s k f g = cond_case P (eqb k 0) (accepted t s) (refused t s k) (λ e. f (eqb-true k 0 e)) (λ e. g (eqb-false k 0 e))

pub answering_rest : (t : Table) (a : Command) (r : List ℕ) → (answering t a r).rest ≡ r
unfolding answering
answering_rest t (Act e) r = refl
answering_rest t (Read c) r = refl

pub answering-accepted : (t : Table) (a : Command) (r : List ℕ) → (answering t a r).refusal ≡ 0
unfolding answering
answering-accepted t (Act e) r = refl
answering-accepted t (Read c) r = refl

module _ (t : Table) (s : List ℕ) (room : ℕ) where
  pub step_case : (P : Outcome → Type 0) → (first_no (step_questions t s room) ≡ 0 → P (accepted t s))
      → (first_no (step_questions t s room) ≢ 0 → P (refused t s (first_no (step_questions t s room)))) → P (step t s room)
  unfolding step
  step_case P f g = settled_case P t s (first_no (step_questions t s room)) f g

  pub step-first_no : (step t s room).answer.refusal ≡ first_no (step_questions t s room)
  unfolding accepted refused
  step-first_no = step_case (λ (o : Outcome). o.answer.refusal ≡ first_no (step_questions t s room)) (λ e. answering-accepted t _ _ ∙ sym e) (λ _. refl)

  pub step_is_accepted : first_no (step_questions t s room) ≡ 0 → step t s room ≡ accepted t s
  step_is_accepted e = step_case (λ (o : Outcome). o ≡ accepted t s) (λ _. refl) (λ n. absurd (n e))

  pub step_is_refused : first_no (step_questions t s room) ≢ 0 → step t s room ≡ refused t s (first_no (step_questions t s room))
  step_is_refused n = step_case (λ (o : Outcome). o ≡ refused t s (first_no (step_questions t s room))) (λ e. absurd (n e)) (λ _. refl)

  -- on a well-formed table the event call is a step
  pub event_is_step : well_formed t ≡ true → event t s room ≡ step t s room
  unfolding event step first_no lent_table
  event_is_step w = rw w refl

  -- AN ACCEPTED STEP

  module _ (z : (step t s room).answer.refusal ≡ 0) where
    pub accepted_asked : first_no (step_questions t s room) ≡ 0
    accepted_asked = sym step-first_no ∙ z

    pub accepted_table : (step t s room).table ≡ resulting t (decode t.version s)
    unfolding accepted
    accepted_table = ap (λ (o : Outcome). o.table) (step_is_accepted accepted_asked)

    pub accepted_rest : (step t s room).answer.rest ≡ after_record s
    unfolding accepted
    accepted_rest = ap (λ (o : Outcome). o.answer.rest) (step_is_accepted accepted_asked) ∙ answering_rest t (decode t.version s) (after_record s)

    pub accepted_within : size s < length s
    unfolding record_questions
    accepted_within = ltb-true (size s) (length s) (no_no 4 (ltb (size s) (length s)) _ (step_asked t s room accepted_asked).0).0

    -- what is left is shorter than what was handed in
    pub accepted_shorter : length (step t s room).answer.rest < length s
    unfolding after_record
    accepted_shorter = rw accepted_rest (omega (arith, accepted_within, length-drop (size s + 1) s))

    pub accepted_room : scratch_size ≤ room
    unfolding scratch_room
    accepted_room = leb-true scratch_size room (no_no 14 (leb scratch_size room) [] (step_asked t s room accepted_asked).2).0

-- so too of an event call
pub event_shorter : (t : Table) (s : List ℕ) (room : ℕ) → (event t s room).answer.refusal ≡ 0 → length (event t s room).answer.rest < length s
unfolding event accepted refused lent_table
event_shorter t s room =
    settled_case (λ (o : Outcome). o.answer.refusal ≡ 0 → length o.answer.rest < length s) t s _
    (λ e _.
    let a = (no_no 3 (well_formed t) (step_questions t s room) e).1 in
    let z = step-first_no t s room ∙ a in
    rw (answering_rest t _ _, ← accepted_rest t s room z) (accepted_shorter t s room z))
    (λ n z. absurd (n z))

-- a file run past question 3
pub file_run_ran : (s listing scratch : List ℕ) → first_no (file_questions s) ≡ 0
    → file_run s listing scratch ≡ ran (progress s (length scratch) (length listing)) listing scratch
unfolding file_run
file_run_ran s listing scratch e = cond_true _ _ (eq-eqb (first_no (file_questions s)) 0 e)

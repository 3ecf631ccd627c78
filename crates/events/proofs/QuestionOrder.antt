-- The questions of a record, put one list after the other, as the code puts them; and what an event that none refuses relies on. Assumes nothing.
use mathlib.Core.Path.{◌≡◌, refl, sym, ◌∙◌}
use mathlib.Core.Bool.{true}
use mathlib.Core.List.{List, ◌∷◌, ◌++◌}
use Prim.Native.Nat.{ℕ, ◌≤◌}
use Rattle.model.specs.Tables.{seats, scratch_size, Among, at}
use Rattle.model.specs.Records.{decode}
use Rattle.model.specs.WellFormed.{well_formed}
use Rattle.model.specs.Questions.{Question, first_no, lent_table, record_questions, command_questions, step_questions}
use Rattle.model.specs.declared.Table.{Table}
use Rattle.model.specs.declared.Event.{Event}
use Rattle.model.specs.declared.Command.{Command}
use Rattle.model.specs.declared.Command.TheVariants.{Act, Read}
use Rattle.model.proofs.Tested.{facts}
use Rattle.model.proofs.Allowed.{no_no, command_numbered, record_numbered, step_asked, read_allowed}
use Rattle.model.proofs.Steps.{step-first_no, accepted_room}
use Rattle.invariant.proofs.Stores.{seated}
use Rattle.questions.proofs.Answers.{first_passed}
use Rattle.effects.specs.Conditions.{Accepted}
use Rattle.effects.specs.Parties.{Both, indices_of, hand_of}
use Rattle.effects.proofs.Seats.{at_seat}

-- the number of a list is that of what follows on questions that all say yes
pub record_passed : (v : ℕ) (s : List ℕ) (rs : List Question) → 0 ≡ first_no (record_questions v s) → first_no (record_questions v s ++ rs) ≡ first_no rs
record_passed v s rs e = first_passed (record_numbered v s) rs (sym e)

pub command_passed : (t : Table) (a : Command) (rs : List Question) → 0 ≡ first_no (command_questions t a) → first_no (command_questions t a ++ rs) ≡ first_no rs
command_passed t a rs e = first_passed (command_numbered t a) rs (sym e)

module _ (t : Table) (s : List ℕ) (room : ℕ) where
  pub lent_passed : 0 ≡ first_no (lent_table t ∷ step_questions t s room) → (well_formed t ≡ true) × (first_no (step_questions t s room) ≡ 0)
  unfolding lent_table
  lent_passed e = no_no 3 (well_formed t) (step_questions t s room) (sym e)

  module _ (w : well_formed t ≡ true) (e : first_no (step_questions t s room) ≡ 0) where
    pub enough : scratch_size ≤ room
    enough = accepted_room t s room (step-first_no t s room ∙ e)

    -- what carrying out an event, and a local read, relies on
    pub allowed : (d : Event) → decode t.version s ≡ Act d → Accepted t d
    unfolding command_questions
    allowed d q = (w, rw q at (step_asked t s room e).1)

    readable : (c : ℕ) → decode t.version s ≡ Read c → Among seats c
    readable c q = seated (facts t w).few (read_allowed t c (rw q at (step_asked t s room e).1)).controller

    -- the controller at hand for a local read is that of the table
    pub reader_is : (c : ℕ) → decode t.version s ≡ Read c → (a : Command) → a ≡ Read c → (p : Both) → p ≡ hand_of t.controllers a → p.subject ≡ at t c
    unfolding hand_of indices_of
    reader_is c q a ea p ep = rw (ep, ea) (at_seat t c _ refl (readable c q))

-- What the event call answers and leaves, as its callers get it by value; and the questions that are put to a record once it was read.
use Rattle.std.specs.Prelude.{ℕ, ◌+◌, ◌≡◌, cond, List, [], ◌∷◌, ◌++◌, length, eqb}
use Rattle.model.specs.Records.{size}
use Rattle.model.specs.Questions.{first_no, command_questions, scratch_room}
use Rattle.model.specs.declared.Command.{Command}
use Rattle.model.specs.Calls.{Outcome, event, scratch_after, answer_of}
use Rattle.model.specs.declared.Table.{Table}
use Rattle.effects.specs.Effects.{no_set}
use Rattle.events.specs.declared.Stepped.{Stepped}

-- the first no of questions 8 to 15 and 17 to 20, of what a record asks for; the scratch area has `room` bytes
unfoldable pub refusal_of : Table → Command → ℕ → ℕ
refusal_of t a room = first_no (command_questions t a ++ (scratch_room room ∷ []))

-- an outcome of the bytes s: the unread rest is what stands after the bytes used
unfoldable pub stepped_of : Outcome → List ℕ → Stepped
stepped_of o s = record {
  answer = answer_of o.answer;
  used = cond (eqb o.answer.refusal 0) (size s + 1) 0;
  table = o.table;
}

-- a refusal: nothing is used or changed
unfoldable pub unchanged : Table → ℕ → Stepped
unchanged t k = record { answer = no_set k; used = 0; table = t }

-- what is answered, and left of the scratch area w, where an event of the bytes s has this outcome
pub record Answers (o : Outcome) (s w : List ℕ) (answer : Stepped) (scratch : List ℕ) : Type 0 where
  pub outcome : answer ≡ stepped_of o s
  pub clear : scratch ≡ scratch_after o.answer.refusal w

-- the event call
abbrev pub Steps : Table → List ℕ → List ℕ → Stepped → List ℕ → Type 0
Steps t s w = Answers (event t s (length w)) s w

-- What the event call leaves, to a caller that is handed back a part of its bytes.
use Rattle.std.specs.Prelude.{◌≡◌, List, ℕ, length}
use Rattle.model.specs.Calls.{event, scratch_after, answer_of}
use Rattle.model.specs.declared.Table.{Table}
use Rattle.model.specs.declared.Answer.{Answer}

-- the event of the bytes s on the table t, with the scratch area w
pub record Called (t : Table) (s w : List ℕ) (table : Table) (answer : Answer) (rest scratch : List ℕ) : Type 0 where
  pub table_is : table ≡ (event t s (length w)).table
  pub answer_is : answer ≡ answer_of (event t s (length w)).answer
  pub rest_is : rest ≡ (event t s (length w)).answer.rest
  pub scratch_is : scratch ≡ scratch_after (event t s (length w)).answer.refusal w

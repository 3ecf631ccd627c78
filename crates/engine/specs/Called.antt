-- The number of the interface; what the event call leaves, to a caller that is told how long the part of its bytes is that is
-- unread; and what the dispatcher and a commit leave.
use Rattle.std.specs.Prelude.{◌≡◌, List, ℕ, length}
use Rattle.model.specs.Calls.{event, scratch_after, answer_of}
use Rattle.turns.specs.Dispatcher.{dispatch, scratch_served, dispatch_answer_of}
use Rattle.previews.specs.Previews.{commit}
use Rattle.model.specs.declared.Pair.{Pair}
use Rattle.model.specs.declared.Table.{Table}
use Rattle.model.specs.declared.Answer.{Answer}
use Rattle.model.specs.declared.DispatchAnswer.{DispatchAnswer}

-- It goes up whenever a struct, a constant, a refusal or a call changes that C or Rust see.
abbrev pub interface : ℕ
interface = 4

-- the event of the bytes s on the table t, with the scratch area w
pub record Counted (t : Table) (s w : List ℕ) (table : Table) (answer : Answer) (left : ℕ) (scratch : List ℕ) : Type 0 where
  pub table_is : table ≡ (event t s (length w)).table
  pub answer_is : answer ≡ answer_of (event t s (length w)).answer
  pub left_is : left ≡ length (event t s (length w)).answer.rest
  pub scratch_is : scratch ≡ scratch_after (event t s (length w)).answer.refusal w

-- the next handover after that of the pair p on the table t, with the scratch area w
pub record DispatchLeaves (t : Table) (p : Pair) (w : List ℕ) (table : Table) (answer : DispatchAnswer) (scratch : List ℕ) : Type 0 where
  pub table_is : table ≡ (dispatch t p (length w)).table
  pub answer_is : answer ≡ dispatch_answer_of (dispatch t p (length w)).answer
  pub scratch_is : scratch ≡ scratch_served (dispatch t p (length w)).answer.pair w

-- the handover of the pair p on the table t, if that is the receiver's act count, with the scratch area w
pub record CommitLeaves (t : Table) (p : Pair) (acts : ℕ) (w : List ℕ) (table : Table) (answer : Answer) (scratch : List ℕ) : Type 0 where
  pub table_is : table ≡ (commit t p acts (length w)).table
  pub answer_is : answer ≡ answer_of (commit t p acts (length w)).answer
  pub scratch_is : scratch ≡ scratch_after (commit t p acts (length w)).answer.refusal w

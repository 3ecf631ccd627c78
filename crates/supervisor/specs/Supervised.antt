-- What ask and commit answer and leave, as their callers get it by value; and what their helpers are asked.
use Rattle.std.specs.Prelude.{ℕ, ◌≤◌, ◌<◌, ◌≡◌, List, [], length, get_or, Option, Some, None}
use Rattle.model.specs.Tables.{capacity}
use Rattle.model.specs.Questions.{Question}
use Rattle.model.specs.Calls.{Outcome, answer_of, scratch_after}
use Rattle.previews.specs.Previews.{ask_questions, preview, ask_answer_of, commit_questions, commit}
use Rattle.model.specs.declared.Pair.{Pair}
use Rattle.model.specs.declared.Table.{Table}
use Rattle.model.specs.declared.AskAnswer.{AskAnswer}
use Rattle.effects.specs.Effects.{no_set}
use Rattle.supervisor.specs.declared.Committed.{Committed}

-- no read position of n is beyond the longest log
abbrev pub Bounded : ℕ → List ℕ → Type 0
Bounded n R = (o : ℕ) → o < n → get_or R o 0 ≤ capacity

-- the questions of an ask, and those of a commit of this act count
abbrev pub questions_of : Table → Pair → Option ℕ → ℕ → List Question
questions_of t p None room = ask_questions t p room
questions_of t p (Some acts) room = commit_questions t p acts room

-- a refused ask, and a refused commit
unfoldable pub no_preview : ℕ → AskAnswer
no_preview k = ask_answer_of (record { refusal = k; names = []; acts = 0 })

unfoldable pub unchanged : Table → ℕ → Committed
unchanged t k = record { answer = no_set k; table = t }

-- what ask answers, and leaves of the scratch area w
pub record Asks (t : Table) (p : Pair) (w : List ℕ) (answer : AskAnswer) (scratch : List ℕ) : Type 0 where
  pub answer_is : answer ≡ ask_answer_of (preview t p (length w))
  pub scratch_is : scratch ≡ scratch_after (preview t p (length w)).refusal w

-- an outcome, as it is handed on by value
unfoldable pub committed_of : Outcome → Committed
committed_of o = record { answer = answer_of o.answer; table = o.table }

-- what commit answers, and leaves of the scratch area w
pub record Commits (t : Table) (p : Pair) (acts : ℕ) (w : List ℕ) (answer : Committed) (scratch : List ℕ) : Type 0 where
  pub outcome : answer ≡ committed_of (commit t p acts (length w))
  pub clear : scratch ≡ scratch_after (commit t p acts (length w)).answer.refusal w

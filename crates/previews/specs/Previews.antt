-- Look at a set, then take it (RULES.md, section 31). Ask is a preview of a handover: the set that it would apply, and the receiver's act
-- count. Commit makes that handover if the count is still the receiver's (an optimistic lock, whose version is the act count).
use Rattle.std.specs.Prelude.{ℕ, ◌+◌, ◌&&◌, cond, List, [], ◌∷◌, ◌++◌, length, get_or, replicate, eqb}
use Rattle.lists.specs.Below.{count, sum}
use Rattle.lists.specs.Build.{overlay}
use Rattle.model.specs.Tables.{Messages, capacity, no_name, yes?, at, message_in, messages_of}
use Rattle.model.specs.Events.{next, applied_by, names_of}
use Rattle.model.specs.Fair.{named}
use Rattle.model.specs.Questions.{Question, ask, first_no, lent_table, unread, event_questions, scratch_room}
use Rattle.model.specs.Calls.{Outcome, answering, refused}
use Rattle.turns.specs.Dispatcher.{handover}
use Rattle.model.specs.declared.Name.{Name}
use Rattle.model.specs.declared.Pair.{Pair}
use Rattle.model.specs.declared.Controller.{Controller}
use Rattle.model.specs.declared.Table.{Table}
use Rattle.model.specs.declared.Command.TheVariants.{Act}
use Rattle.model.specs.declared.AskAnswer.{AskAnswer}

-- THE ACT COUNT

-- how many of the messages M controller c sent, and how many entries of the logs of n controllers were read, by the read positions R
unfoldable pub sends_by : Messages → ℕ → ℕ
sends_by M c = count M.count (λ s. eqb (message_in M.slots s).sender c)

unfoldable pub reads_by : ℕ → List ℕ → ℕ
reads_by n R = sum n (λ o. get_or R o 0)

-- "accepted events in which it sent a message, was the receiver of a handover or stopped", of controller c, which is x
unfoldable pub act_count : ℕ → Messages → Controller → ℕ → ℕ
act_count n M x c = sends_by M c + (reads_by n x.read + cond (yes? x.running) 0 1)

abbrev pub acts_of : Table → ℕ → ℕ
acts_of t c = act_count t.n (messages_of t) (at t c) c

-- ASK

-- "Ask is refused where the handover would be": questions 4, 8, 10, 13 and 15
unfoldable pub ask_questions : Table → Pair → ℕ → List Question
ask_questions t p room = lent_table t ∷ (event_questions t (handover p) ++ (scratch_room room ∷ []))

-- what it answers: the number, "the set and the receiver's act count"
pub record Preview : Type 0 where
  pub refusal : ℕ
  pub names : List Name
  pub acts : ℕ

unfoldable pub preview_of : Table → Pair → Preview
preview_of t p = record { refusal = 0; names = names_of (messages_of t) (applied_by t (handover p)); acts = acts_of t p.receiver }

unfoldable pub preview : Table → Pair → ℕ → Preview
preview t p room =
    let k = first_no (ask_questions t p room) in
    let a = preview_of t p in
    cond (eqb k 0) a (record { refusal = k; names = []; acts = 0 })

-- the answer as the caller gets it: the names in the first of 64 places, zeros after them
unfoldable pub ask_answer_of : Preview → AskAnswer
ask_answer_of a = record { refusal = a.refusal; acts = a.acts; size = length a.names; names = overlay a.names (replicate capacity no_name) }

-- COMMIT

-- questions 4, 8, 10, 21, 13 and 15: "It refuses with 21 a commit whose act count is not the receiver's, after question 10"
unfoldable pub commit_questions : Table → Pair → ℕ → ℕ → List Question
commit_questions t p acts room =
    let r = p.receiver in
    let o = p.owner in
    lent_table t
    ∷ ask 8 (named t.n r && named t.n o)
    ∷ ask 10 (yes? (at t r).running)
    ∷ ask 21 (eqb acts (acts_of t r))
    ∷ ask 13 (unread (at t r) (at t o) o)
    ∷ scratch_room room
    ∷ []

-- "and then does exactly the handover"
unfoldable pub taking : Table → Pair → Outcome
taking t p = record { answer = answering t (Act (handover p)) []; table = next t (handover p) }

-- "Commit gives the three numbers back"
unfoldable pub commit : Table → Pair → ℕ → ℕ → Outcome
commit t p acts room =
    let k = first_no (commit_questions t p acts room) in
    let o = taking t p in
    cond (eqb k 0) o (refused t [] k)

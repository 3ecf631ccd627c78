-- The questions of a file, and one record of its run, as the code keeps the run: the lines so far stand first in the listing.
use Rattle.std.specs.Prelude.{◌≡◌, true, ◌&&◌, List, ◌∷◌, ℕ, ◌+◌, ◌≤◌, length, take, leb, Result, IfOk}
use Rattle.lists.specs.Build.{overlay}
use Rattle.model.specs.Tables.{messages_of, yes?, fresh}
use Rattle.model.specs.Events.{sums}
use Rattle.model.specs.Records.{byte, size}
use Rattle.model.specs.Refusals.{refusal_in}
use Rattle.model.specs.Sized.{Sized}
use Rattle.model.specs.WellFormed.{well_formed}
use Rattle.model.specs.Questions.{ask, first_no, longest_file, fresh_questions}
use Rattle.model.specs.Calls.{step, scratch_after}
use Rattle.model.specs.Runs.{Progress, advance, progress, ran}
use Rattle.model.specs.declared.Table.{Table}
use Rattle.model.specs.declared.RunAnswer.{RunAnswer}
use Rattle.model.specs.declared.refusal.Refusal.{Refusal}
use Rattle.effects.specs.declared.Effect.{Effect}
use Rattle.files.specs.declared.Header.{Header}
use Rattle.files.specs.declared.Cursor.{Cursor}

-- THE FILE

-- its first two bytes
unfoldable pub header_of : List ℕ → Header
header_of s = record { version = byte s 0; n = byte s 1 }

-- the first no of questions 1 to 3, of a file with that many bytes, which begins with v and n
unfoldable pub file_refusal : ℕ → ℕ → ℕ → ℕ
file_refusal size v n = first_no (ask 1 (leb 2 size && leb size longest_file) ∷ fresh_questions v n)

-- where a run begins, with this table; and what it answers where it has come to c with the table t, of which k is the refusal number
abbrev pub at_start : Cursor
at_start = record { events = 0; written = 0 }

abbrev pub opened_of : List ℕ → Table
opened_of s = fresh (byte s 0) (byte s 1)

unfoldable pub answer_at : Cursor → ℕ → Table → RunAnswer
answer_at c k t = record { refusal = k; events = c.events; written = c.written; table = t }

-- ONE RECORD

-- a finished sync's answer is the sums that its controller then shows
abbrev pub SumsAnswered : Table → Effect → Type 0
SumsAnswered t d = yes? d.answer.finished ≡ true → d.answer.sums ≡ sums (messages_of t) d.controller.applied

-- a run that has come to c with the table t and the listing l, and has the refusal number k
unfoldable pub progress_of : ℕ → Cursor → Table → List ℕ → Progress
progress_of k c t l = record { refusal = k; events = c.events; lines = take c.written l; table = t }

-- what a turn relies on: with the table t, the bytes s left and the listing l
pub record Before (c : Cursor) (t : Table) (s l : List ℕ) : Type 0 where
  pub sized : Sized t
  pub formed : well_formed t ≡ true
  pub within : c.written ≤ length l
  pub few : c.events + length s ≤ longest_file

-- the run after the record that s begins with; the scratch area has `room` bytes
unfoldable pub turned : Cursor → Table → List ℕ → List ℕ → ℕ → Progress
turned c t s l room = advance (progress_of 0 c t l) s room (length l)

-- what a turn answers, and what it leaves of how far the run has come, of the table, of the listing l and of the scratch area w
pub record Turned (c : Cursor) (t : Table) (s l w : List ℕ) (answer : Result ℕ Refusal) (cursor : Cursor) (table : Table) (listing scratch : List ℕ) : Type 0 where
  pub refusal : refusal_in answer ≡ (turned c t s l (length w)).refusal
  pub used : IfOk answer (λ n. n ≡ size s + 1)
  pub events : cursor.events ≡ (turned c t s l (length w)).events
  pub written : cursor.written ≡ length (turned c t s l (length w)).lines
  pub stored : table ≡ (turned c t s l (length w)).table
  pub listed : listing ≡ overlay (turned c t s l (length w)).lines l
  pub clear : scratch ≡ scratch_after (step t s (length w)).answer.refusal w

-- what the records of a file that questions 1 to 3 do not refuse answer and leave
pub record Ran (s l w : List ℕ) (answer : RunAnswer) (listing scratch : List ℕ) : Type 0 where
  pub outcome : answer ≡ (ran (progress s (length w) (length l)) l w).answer
  pub listed : listing ≡ (ran (progress s (length w) (length l)) l w).listing
  pub clear : scratch ≡ (ran (progress s (length w) (length l)) l w).scratch

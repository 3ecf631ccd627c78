-- What each call answers and leaves: the single event, the fresh table, the panel look, the count of "goes before".
use Rattle.std.specs.Prelude.{ℕ, zero, suc, Bool, false, ◌&&◌, cond, List, [], ◌∷◌, length, replicate, eqb}
use Rattle.lists.specs.Build.{over, overlay}
use Rattle.model.specs.Tables.{Messages, capacity, scratch_size, no_name, no_sums, no_panel, unheld, fresh, zero_table, message_in, at, messages_of, in_buffer, entry}
use Rattle.model.specs.Delivery.{goes_before}
use Rattle.model.specs.Events.{subject, next, applied_by, resulting, panel_of, names_of, finishes}
use Rattle.model.specs.Records.{after_record, decode}
use Rattle.model.specs.Questions.{first_no, fresh_questions, lent_table, look_questions, step_questions}
use Rattle.model.specs.declared.Message.{Message}
use Rattle.model.specs.declared.Name.{Name}
use Rattle.model.specs.declared.Pending.{Pending}
use Rattle.model.specs.declared.Sums.{Sums}
use Rattle.model.specs.declared.Table.{Table}
use Rattle.model.specs.declared.Command.{Command}
use Rattle.model.specs.declared.Command.TheVariants.{Act, Read}
use Rattle.model.specs.declared.Answer.{Answer}
use Rattle.model.specs.declared.FreshAnswer.{FreshAnswer}
use Rattle.model.specs.declared.LookAnswer.{LookAnswer}
use Rattle.model.specs.declared.CountAnswer.{CountAnswer}

-- THE SINGLE EVENT

-- The answer: the refusal number, 0 if accepted; the set applied, by sender and then number; whether a sync of the
-- receiver's own is in it, and then that sync's answer, the sums after the set, or the sums that a local read gives;
-- the unread rest of the bytes.
pub record EventAnswer : Type 0 where
  pub refusal : ℕ
  pub names : List Name
  pub finished : Bool
  pub sums : Sums
  pub rest : List ℕ

-- what an event call leaves besides
pub record Outcome : Type 0 where
  pub answer : EventAnswer
  pub table : Table

-- what is answered to a record that is accepted, with r after it
unfoldable pub answering : Table → Command → List ℕ → EventAnswer
answering t (Act e) r =
    let S = applied_by t e in
    let f = finishes (messages_of t) S (subject e) in
    let z = (panel_of (next t e) (subject e)).sums in
    record { refusal = 0; names = names_of (messages_of t) S; finished = f; sums = cond f z no_sums; rest = r }
answering t (Read c) r = record { refusal = 0; names = []; finished = false; sums = (panel_of t c).sums; rest = r }

unfoldable pub accepted : Table → List ℕ → Outcome
accepted t s = let a = decode t.version s in record { answer = answering t a (after_record s); table = resulting t a }

unfoldable pub refused : Table → List ℕ → ℕ → Outcome
refused t s k = record { answer = record { refusal = k; names = []; finished = false; sums = no_sums; rest = s }; table = t }

-- an event whose questions give k
unfoldable pub settled : Table → List ℕ → ℕ → Outcome
settled t s k = let a = accepted t s in cond (eqb k 0) a (refused t s k)

-- an event of a file run, whose own table is not put to question 4; the scratch area has `room` bytes
unfoldable pub step : Table → List ℕ → ℕ → Outcome
step t s room = settled t s (first_no (step_questions t s room))

-- the single-event call
unfoldable pub event : Table → List ℕ → ℕ → Outcome
event t s room = settled t s (first_no (lent_table t ∷ step_questions t s room))

-- the first 64 bytes zero, later ones as they were
unfoldable pub cleared : List ℕ → List ℕ
cleared s = over (λ i. 0) scratch_size s

-- the scratch area after an event with this number
unfoldable pub scratch_after : ℕ → List ℕ → List ℕ
scratch_after k s = cond (eqb k 0) (cleared s) s

-- the answer as the caller gets it: the names in the first of 64 places, zeros after them
unfoldable pub answer_of : EventAnswer → Answer
answer_of a = record {
  refusal = a.refusal;
  finished = cond a.finished 1 0;
  sums = a.sums;
  size = length a.names;
  names = overlay a.names (replicate capacity no_name);
}

-- THE FRESH TABLE

unfoldable pub fresh_table : ℕ → ℕ → FreshAnswer
fresh_table v n =
    let k = first_no (fresh_questions v n) in
    record { refusal = k; table = cond (eqb k 0) (fresh v n) zero_table }

-- THE PANEL LOOK: the local counter and the registers, also of a controller that has stopped or has messages of its own pending

unfoldable pub look : Table → ℕ → LookAnswer
look t c =
    let k = first_no (look_questions t c) in
    record { refusal = k; panel = cond (eqb k 0) (panel_of t c) no_panel }

-- HOW MANY PUT IT FIRST: the count of "goes before", of two messages that are pending at a controller, by their names

-- whether m is the message of this name
unfoldable pub is_named : Name → Message → Bool
is_named a m = eqb m.sender a.sender && eqb m.number.0 a.number.0

-- slot s is in buffer P, and is the message of this name
abbrev pub here : List Message → List Pending → Name → ℕ → Bool
here M P a s = in_buffer P s && is_named a (message_in M s)

-- what buffer P has of the message of this name, among the first k slots; every mark is absent if it is not pending there
unfoldable pub pending_below : ℕ → List Message → List Pending → Name → Pending
pending_below zero M P a = unheld
pending_below (suc s) M P a =
    let r = pending_below s M P a in
    cond (here M P a s) (entry P s) r

-- the same of the whole run: every mark is absent if it is not of the run either
unfoldable pub pending_of : Messages → List Pending → Name → Pending
pending_of M P a = pending_below M.count M.slots P a

-- how many controllers have, in the buffer of c, a smaller forward number for message a than for message b
unfoldable pub count_before : Table → ℕ → Name → Name → CountAnswer
count_before t c a b =
    let k = first_no (look_questions t c) in
    let M = messages_of t in
    let P = (at t c).pending in
    let x = goes_before t.n (pending_of M P a) (pending_of M P b) in
    record { refusal = k; count = cond (eqb k 0) x 0 }

-- What the functions of the effects rely on: on a well-formed table on which no question refuses the event, all of it holds.
use Rattle.std.specs.Prelude.{◌≡◌, true, false, List, ℕ, ◌≤◌, ◌<◌, leb}
use Rattle.model.specs.Tables.{Messages, seats, capacity, Among, message_in, place, held, highest, with_read}
use Rattle.model.specs.Delivery.{Slots, has}
use Rattle.model.specs.Events.{next_slot}
use Rattle.model.specs.WellFormed.{well_formed}
use Rattle.model.specs.Questions.{first_no, event_questions}
use Rattle.model.specs.declared.Message.{Message}
use Rattle.model.specs.declared.Controller.{Controller}
use Rattle.model.specs.declared.Table.{Table}
use Rattle.model.specs.declared.Event.{Event}

-- a well-formed table, and an event that no question refuses
abbrev pub Accepted : Table → Event → Type 0
Accepted t e = (well_formed t ≡ true) × (first_no (event_questions t e) ≡ 0)

-- no date of these messages is beyond the most messages of a run
abbrev pub Dated : Messages → Type 0
Dated M = (s : ℕ) → s < M.count → (message_in M.slots s).date ≤ capacity

-- c can take in message m of slot s from the log of o: its own log has room where it is to forward m
pub record Receivable (c : Controller) (m : Message) (s o : ℕ) : Type 0 where
  pub sender : Among seats m.sender
  pub owner : Among seats o
  pub room : leb m.number.0 (highest c m.sender) ≡ false → held c s ≡ false → c.length < capacity

-- x can read the next entry of the log of o, which is y
pub record Readable (M : List Message) (x y : Controller) (o : ℕ) : Type 0 where
  pub owner : Among seats o
  pub next : place x o < capacity
  pub slot : next_slot x y o < capacity
  pub entry : Receivable (with_read x o) (message_in M (next_slot x y o)) (next_slot x y o) o

-- every sender has a seat
abbrev pub Seated : Messages → Type 0
Seated M = (s : ℕ) → s < M.count → Among seats (message_in M.slots s).sender

-- a set of messages of the run
pub record Deliverable (M : Messages) (S : Slots) : Type 0 where
  pub fits : M.count ≤ capacity
  pub senders : Seated M
  pub of_run : (s : ℕ) → has S s ≡ true → s < M.count

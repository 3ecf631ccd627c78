-- What the well-formed test reads off a table in one pass, as flags and numbers; its clauses are then tests of these.
use Rattle.std.specs.Prelude.{ℕ, ◌+◌, ◌≤◌, ◌<◌, Bool, false, not, ◌&&◌, ◌||◌, cond, List, get_or, eqb, ltb}
use Rattle.std.specs.Bool.{beq}
use Rattle.lists.specs.Below.{count, all}
use Rattle.lists.specs.Build.{tabulate}
use Rattle.model.specs.Tables.{seats, capacity, register_count, write_kind, no_message, yes?, mark}
use Rattle.model.specs.WellFormed.{good_mark}
use Rattle.model.specs.declared.Message.{Message}
use Rattle.model.specs.declared.Pending.{Pending}

-- a message whose sender, number, register and date are in range
pub record Bounded (m : Message) : Type 0 where
  pub low : 0 < m.sender
  pub sender : m.sender ≤ seats
  pub number : m.number.0 ≤ capacity
  pub reg : m.payload.reg ≤ register_count
  pub date : m.date ≤ capacity

-- so are the first k messages
abbrev pub AllBounded : ℕ → List Message → Type 0
AllBounded k M = (s : ℕ) → s < k → Bounded (get_or M s no_message)

-- the sender of a write, 0 for any other message
unfoldable pub writer_of : Message → ℕ
writer_of m = cond (eqb m.payload.kind write_kind) m.sender 0

-- controller i, if it runs and sent the write of slot s, has it pending or applied
abbrev pub own_test : List ℕ → ℕ → Bool → List Bool → List ℕ → ℕ → Bool
own_test W i running H A s = not (eqb (get_or W s 0) i) || (not running || (get_or H s false || yes? (get_or A s 0)))

-- f takes the value j below k
unfoldable pub taken : (ℕ → ℕ) → ℕ → ℕ → Bool
taken f k j = ltb 0 (count k (λ i. eqb (f i) j))

-- the values of a byte, and for each whether it is a good mark
abbrev pub byte_count : ℕ
byte_count = 256

abbrev pub allowed_marks : List Bool
allowed_marks = tabulate byte_count good_mark

-- the marks of a slot that is in the buffer
unfoldable pub good_entry : ℕ → Pending → Bool
good_entry n p = not (yes? p.held) || all n (λ f. good_mark (mark p f))

-- A slot is pending or applied and not both, and only if it is of the run; where the controller runs, exactly if its log
-- names it.
unfoldable pub good_slot : Bool → Bool → Bool → Bool → Bool → Bool
good_slot inside running held done logged =
    not (held && done) && ((inside || not (held || done)) && (not running || beq logged (held || done)))

-- slot s of a run of k messages, from the flags of all
abbrev pub slot_test : ℕ → Bool → List Bool → List ℕ → List Bool → ℕ → Bool
slot_test k running H A L s = good_slot (ltb s k) running (get_or H s false) (yes? (get_or A s 0)) (get_or L s false)

-- the senders, and 0, which has a place too
abbrev pub sender_count : ℕ
sender_count = seats + 1

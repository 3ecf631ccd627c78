-- A handover of a table: what it reads, and what it does to the receiver. Assumes nothing.
use Prim.Native.Nat.{ℕ}
use Rattle.model.specs.Tables.{at, messages_of}
use Rattle.model.specs.Delivery.{Slots}
use Rattle.model.specs.Events.{next_slot, received, handover_set}
use Rattle.model.specs.declared.Controller.{Controller}
use Rattle.model.specs.declared.Table.{Table}

-- the slot that r reads next in the log of o
abbrev pub next_at : Table → ℕ → ℕ → ℕ
next_at t r o = next_slot (at t r) (at t o) o

-- r after it has read that entry, and before it applies
abbrev pub received_at : Table → ℕ → ℕ → Controller
received_at t r o = received (messages_of t) (at t r) (at t o) o

-- the set that r then applies
abbrev pub set_at : Table → ℕ → ℕ → Slots
set_at t r o = handover_set t.n (messages_of t) (at t r) (at t o) o

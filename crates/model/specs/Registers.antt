-- The registers (set points) that a controller holds: the snapshot object of Algorithm 3. They are not stored: each is worked out from the
-- writes applied.
use Rattle.std.specs.Prelude.{ℕ, zero, suc, ◌+◌, ◌≤◌, ◌<◌, ◌≡◌, Bool, true, ◌&&◌, ◌||◌, cond, List, eqb, ltb}
use Rattle.lists.specs.Build.{tabulate}
use Rattle.model.specs.Tables.{Messages, register_count, write_kind, no_register, message_in, flagged}
use Rattle.model.specs.declared.Payload.{Payload}
use Rattle.model.specs.declared.Message.{Message}
use Rattle.model.specs.declared.Stamp.{Stamp}
use Rattle.model.specs.declared.Register.{Register}

-- "dates decide before writers"
unfoldable pub exceeds : Stamp → Stamp → Bool
exceeds a b = ltb b.date a.date || (eqb a.date b.date && ltb b.writer a.writer)

-- lines 7 to 10: what is written "wins if it exceeds the one held"
unfoldable pub wins : Register → Register → Register
wins w y = cond (exceeds w.stamp y.stamp) w y

-- a write of register r
unfoldable pub writes : ℕ → Message → Bool
writes r m = eqb m.payload.kind write_kind && eqb m.payload.reg r

-- what a write gives its register: the value, and the stamp, a date and the writer
abbrev pub written : Message → Register
written m = record { value = m.payload.value; stamp = record { date = m.date; writer = m.sender } }

-- register r by the writes among the slots below k that f has: "the greatest stamp for a register wins"; 0 and 0, 0 if there is none
unfoldable pub newest : ℕ → List Message → (ℕ → Bool) → ℕ → Register
newest zero M f r = no_register
newest (suc k) M f r =
    let y = newest k M f r in
    let w = wins (written (message_in M k)) y in
    cond (f k && writes r (message_in M k)) w y

-- register r, and all of them, as a controller holds them that has applied what A flags
unfoldable pub register_of : Messages → List ℕ → ℕ → Register
register_of M A r = newest M.count M.slots (flagged A) r

unfoldable pub registers : Messages → List ℕ → List Register
registers M A = tabulate register_count (λ i. register_of M A (suc i))

-- line 4: the date of a write that such a controller sends is "the date known to the writer plus one"; any other message has none
unfoldable pub date_of : Messages → List ℕ → Payload → ℕ
date_of M A p = let d = (register_of M A p.reg).stamp.date + 1 in cond (eqb p.kind write_kind) d 0

-- WHAT IS SAID OF THEM

-- no later: the date before the writer
pub record StampNoLater (a b : Stamp) : Type 0 where
  pub dates : a.date ≤ b.date
  pub writers : a.date ≡ b.date → a.writer ≤ b.writer

-- y is a write of register r among the slots below k that f has, or was not written
pub data Held (k : ℕ) (M : List Message) (f : ℕ → Bool) (r : ℕ) (y : Register) : Type 0 where
  none : y ≡ no_register → Held k M f r y
  some : (s : ℕ) → s < k → f s ≡ true → writes r (message_in M s) ≡ true → y ≡ written (message_in M s) → Held k M f r y

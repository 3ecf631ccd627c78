-- What the theorems of this crate are stated with besides the definitions of the rules: the weight and the writes of a set, a register
-- before and after an event, how large sums are, and the numbers of refusals.
use Rattle.std.specs.Prelude.{◌≢◌, cond, ℕ, ◌+◌, ◌≤◌, get_or, eqb}
use Rattle.lists.specs.Below.{sum}
use Rattle.lists.specs.Every.{Every}
use Rattle.model.specs.Tables.{Messages, no_register, message_in, messages_of}
use Rattle.model.specs.Delivery.{Slots, has}
use Rattle.model.specs.Registers.{wins, newest}
use Rattle.model.specs.Events.{subject, applied_by}
use Rattle.model.specs.Calls.{look}
use Rattle.model.specs.declared.Payload.{Payload}
use Rattle.model.specs.declared.Sums.{Sums}
use Rattle.model.specs.declared.Register.{Register}
use Rattle.model.specs.declared.Panel.{Panel}
use Rattle.model.specs.declared.Table.{Table}
use Rattle.model.specs.declared.Event.{Event}

-- the sum of a weight over the messages of a set
unfoldable pub weigh_set : (Payload → ℕ) → Messages → Slots → ℕ
weigh_set w M S = sum M.count (λ s. let v = w (message_in M.slots s).payload in cond (has S s) v 0)

-- register r by the writes of a set
abbrev pub in_set : Messages → Slots → ℕ → Register
in_set M S r = newest M.count M.slots (has S) r

-- what an event makes of register r of controller c, which was y
abbrev pub rewritten : Table → Event → ℕ → ℕ → Register → Register
rewritten t e c r y = cond (eqb c (subject e)) (wins (in_set (messages_of t) (applied_by t e) r) y) y

-- register i, from 0, as a look at c shows it
abbrev pub looked_at : Table → ℕ → ℕ → Register
looked_at t c i = get_or (look t c).panel.registers i no_register

-- each of two sums, and both together, are at most 360 for each of 64 messages
pub record Bounded (z : Sums) : Type 0 where
  pub added : z.added ≤ 23040
  pub withdrawn : z.withdrawn ≤ 23040
  pub together : z.added + z.withdrawn ≤ 23040

-- the same of all sums that a panel shows
pub record BoundedPanel (p : Panel) : Type 0 where
  pub sums : Bounded p.sums
  pub classes : Every Bounded p.classes

-- the numbers that a record can be refused by: 5 to 15 and 17 to 20
abbrev pub StepNumber : ℕ → Type 0
StepNumber k = (5 ≤ k) × (k ≤ 20) × (k ≢ 16)

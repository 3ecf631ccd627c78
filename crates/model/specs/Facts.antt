-- What question 4 asks of a table, as named facts: one for each clause of RULES.md, section 15 (Well formed).
-- The test of WellFormed.antt passes exactly where the facts hold: proofs/Tested.antt.
use Rattle.std.specs.Prelude.{◌≡◌, Bool, true, false, ◌||◌, cond, ◌⊎◌, List, ℕ, ◌≤◌, ◌<◌, eqb, ltb}
use Rattle.lists.specs.Below.{count, greatest}
pub use Rattle.model.specs.Tables.{Among}
use Rattle.model.specs.Tables.{Messages, seats, capacity, write_kind, absent, yes?, message_in, at, message, messages_of, flagged, slot_at, place, entry, held, mark, applied, highest}
use Rattle.model.specs.Events.{number_of}
use Rattle.model.specs.Fair.{known, fair_amount, fair_class, fair_register, fair_date}
use Rattle.model.specs.declared.Controller.{Controller}
use Rattle.model.specs.declared.Table.{Table}

-- the log of c names slot s
unfoldable pub in_log : Controller → ℕ → Bool
in_log c s = ltb 0 (count c.length (λ k. eqb (slot_at c k) s))

-- the greatest number of sender x among the messages that A flags as applied, 0 if none
unfoldable pub greatest_applied : Messages → List ℕ → ℕ → ℕ
greatest_applied M A x = greatest M.count (λ s. let k = number_of x (message_in M.slots s) in cond (flagged A s) k 0)

-- "marks are absent or 1 to 64"
abbrev pub GoodMark : ℕ → Type 0
GoodMark k = (k ≡ absent) ⊎ (0 < k) × (k ≤ capacity)

-- controller i, whose part of the table is c
pub record GoodController (t : Table) (i : ℕ) (c : Controller) : Type 0 where
  -- "a log names only messages of the run, none twice"
  pub log_room : c.length ≤ capacity
  pub log_run : (k : ℕ) → k < c.length → slot_at c k < t.count
  pub log_once : (j k : ℕ) → j < c.length → k < c.length → slot_at c j ≡ slot_at c k → j ≡ k
  -- "read positions do not pass log ends"
  pub places : (o : ℕ) → Among t.n o → place c o ≤ (at t o).length
  pub marks : (s f : ℕ) → s < t.count → held c s ≡ true → f < t.n → GoodMark (mark (entry c.pending s) f)
  -- "No message is both pending and applied at a controller"
  pub apart : (s : ℕ) → s < t.count → held c s ≡ true → applied c s ≡ true → ⊥
  -- and neither is a message that the run has not
  pub outside : (s : ℕ) → s < capacity → t.count ≤ s → (held c s ≡ false) × (applied c s ≡ false)
  -- "its highest applied numbers agree with what it applied"
  pub highest_is : (x : ℕ) → Among t.n x → highest c x ≡ greatest_applied (messages_of t) c.applied x
  -- "A running controller's log names exactly what it has pending or applied"
  pub exact : yes? c.running ≡ true → (s : ℕ) → s < t.count → in_log c s ≡ (held c s || applied c s)
  -- "and is at least as long as any message number it sent"
  pub long : yes? c.running ≡ true → (s : ℕ) → s < t.count → (message t s).sender ≡ i → (message t s).number.0 ≤ c.length

pub record WellFormed (t : Table) : Type 0 where
  -- the version is 1 or 2; "n and the message count are in range"
  pub version : known t.version ≡ true
  pub some : 0 < t.n
  pub few : t.n ≤ seats
  pub fitting : t.count ≤ capacity
  -- "messages have distinct names, senders 1 to n, numbers 1 to 64, and reports have amounts as in question 9"
  pub names : (i j : ℕ) → i < t.count → j < t.count
      → (message t i).sender ≡ (message t j).sender → (message t i).number.0 ≡ (message t j).number.0 → i ≡ j
  pub senders : (s : ℕ) → s < t.count → Among t.n (message t s).sender
  pub numbers : (s : ℕ) → s < t.count → (0 < (message t s).number.0) × ((message t s).number.0 ≤ capacity)
  pub amounts : (s : ℕ) → s < t.count → fair_amount (message t s).payload ≡ true
  -- and classes as in question 17
  pub classes : (s : ℕ) → s < t.count → fair_class t.version (message t s).payload ≡ true
  -- and writes have registers as in question 19, and dates from 1 to the count of messages
  pub registers : (s : ℕ) → s < t.count → fair_register (message t s).payload ≡ true
  pub dates : (s : ℕ) → s < t.count → fair_date t.count (message t s) ≡ true
  -- two writes of one sender and register have different dates
  pub stamps : (i j : ℕ) → i < t.count → j < t.count → (message t i).payload.kind ≡ write_kind → (message t j).payload.kind ≡ write_kind
      → (message t i).sender ≡ (message t j).sender → (message t i).payload.reg ≡ (message t j).payload.reg
      → (message t i).date ≡ (message t j).date → i ≡ j
  -- a running controller has each write that it sent pending or applied
  pub kept : (s : ℕ) → s < t.count → (message t s).payload.kind ≡ write_kind
      → let c = at t (message t s).sender in
      yes? c.running ≡ true → (held c s || applied c s) ≡ true
  pub controllers : (c : ℕ) → Among t.n c → GoodController t c (at t c)

-- The abstract system of n controllers, with numbers for messages, and what it is that a state of it shows a table. Assumes nothing.
use mathlib.Core.Path.{◌≡◌}
use mathlib.Core.Bool.{false}
use Prim.Native.Nat.{ℕ, suc, ◌+◌, ◌-◌, ◌*◌, ◌/◌, min, ◌≤◌, ◌<◌}
use native.Mathlib.Omega.{arith}
use Rattle.model.specs.Tables.{seats, capacity, absent, yes?, at, message, slot_at, place, entry, held, mark, applied}
use Rattle.model.specs.Delivery.{majority}
use Rattle.model.specs.Sized.{Sized}
use Rattle.model.specs.declared.Controller.{Controller}
use Rattle.model.specs.declared.Table.{Table}
use Rattle.model.specs.Facts.{Among, WellFormed}
use Rattle.model.proofs.Largest.{majority_more}
use Rattle.broadcast.specs.State.{System, State}
use Rattle.broadcast.proofs.Reachable.{All}
use Rattle.broadcast.proofs.Stored.{Stored}
use Rattle.broadcast.proofs.Slots.{Slot}

-- THE SYSTEM: controller c is process c - 1

-- marks count from 1, so that absent is one more than the position of a message that a log lacks
abbrev pub top : ℕ
top = 254

-- message k of controller c
unfoldable pub code : ℕ → ℕ → ℕ
code c k = capacity * (c - 1) + (k - 1)

unfoldable pub sender_of : ℕ → ℕ
sender_of m = m / capacity

abbrev pub codes : ℕ
codes = 448

abbrev pub system : ℕ → System
system n = record { n = min n seats; quorum = majority n; top = top; many = codes; sender = sender_of; quorums_meet = majority_more n }

pub code_sender : (c k : ℕ) → 0 < k → k ≤ capacity → sender_of (code c k) ≡ c - 1
unfolding code sender_of
code_sender c k l h = omega arith

pub code_many : (c k : ℕ) → Among seats c → k ≤ capacity → code c k < codes
unfolding code
code_many c k h l = omega arith

pub code_injective : (c k d l : ℕ) → Among seats c → Among seats d → 0 < k → k ≤ capacity → 0 < l → l ≤ capacity → code c k ≡ code d l → (c ≡ d) × (k ≡ l)
unfolding code
code_injective c k d l hc hd k0 k1 l0 l1 e = (omega arith, omega arith)

-- the code of the message of slot j
abbrev pub code_at : Table → ℕ → ℕ
code_at t j = code (message t j).sender (message t j).number.0

-- the marks that a controller stores, by slot and process
abbrev pub marks_of : Controller → ℕ → ℕ → ℕ
marks_of c j f = mark (entry c.pending j) f

-- the marks of messages that are not pending are absent
abbrev pub AbsentMarks : Controller → Type 0
AbsentMarks c = (j f : ℕ) → j < capacity → f < seats → held c j ≡ false → marks_of c j f ≡ absent

-- THE RELATION

-- process i of the state is controller c, where slot j holds the message `name j`
pub record ShowsBy (n slots : ℕ) (name : ℕ → ℕ) (s : State) (i : ℕ) (c : Controller) : Type 0 where
  pub length : s.readable i ≡ c.length
  pub places : (o : ℕ) → o < n → s.read i o ≡ place c (suc o)
  pub running : s.running i ≡ yes? c.running
  pub log : (p : ℕ) → p < c.length → s.position i (name (slot_at c p)) ≡ p
  pub applied_is : (j : ℕ) → j < slots → s.delivered i (name j) ≡ applied c j
  pub marks : Stored (system n) slots name (marks_of c) s i
  pub absent_marks : AbsentMarks c

-- the same where the slots hold the messages of a table
abbrev pub Shows : ℕ → Table → State → ℕ → Controller → Type 0
Shows n t s i c = ShowsBy n t.count (code_at t) s i c

pub record Related (n : ℕ) (t : Table) (s : State) : Type 0 where
  pub sized : Sized t
  pub formed : WellFormed t
  pub size : t.n ≡ n
  pub all : All (system n) s
  pub controllers : (i : ℕ) → i < n → Shows n t s i (at t (suc i))
  -- what is in a log is a message of the run
  pub slot_of : (i m : ℕ) → s.position i m < top → Slot t.count (code_at t) m
  -- a message's number is its place in its sender's log, also where that was cut
  pub numbered : (j : ℕ) → j < t.count → suc (s.position ((message t j).sender - 1) (code_at t j)) ≡ (message t j).number.0

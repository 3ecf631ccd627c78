-- What the laws of the dispatcher are stated with besides its definitions.
use Rattle.std.specs.Prelude.{◌≡◌, true, false, List, [], ◌∷◌, ℕ}
use Rattle.model.specs.Tables.{Among, no_sums, yes?, at}
use Rattle.model.specs.Calls.{event, scratch_after}
use Rattle.model.specs.declared.Pair.{Pair}
use Rattle.model.specs.declared.Table.{Table}
use Rattle.turns.specs.Dispatcher.{no_pair, DispatchOutcome, scratch_served}

-- both are among n controllers
pub record InRange (n : ℕ) (p : Pair) : Type 0 where
  pub receiver : Among n p.receiver
  pub owner : Among n p.owner

-- the record of a handover
abbrev pub handover_record : Pair → List ℕ
handover_record p = 3 ∷ 3 ∷ p.receiver ∷ p.owner ∷ []

-- an outcome is that of the event call for the record of its pair
pub record IsRecord (t : Table) (room : ℕ) (o : DispatchOutcome) : Type 0 where
  pub answer : (event t (handover_record o.answer.pair) room).answer ≡ o.answer.answer
  pub table : (event t (handover_record o.answer.pair) room).table ≡ o.table
  pub scratch : (w : List ℕ) → scratch_after (event t (handover_record o.answer.pair) room).answer.refusal w ≡ scratch_served o.answer.pair w

-- question 13 refuses the record of every handover to a running controller, whatever the scratch
abbrev pub AllRead : Table → Type 0
AllRead t = (q : Pair) → InRange t.n q → yes? (at t q.receiver).running ≡ true → (room : ℕ) → (event t (handover_record q) room).answer.refusal ≡ 13

-- the number k, and nothing else: no pair, no set, and all that was lent as it was
pub record Unchanged (t : Table) (k : ℕ) (o : DispatchOutcome) : Type 0 where
  pub pair : o.answer.pair ≡ no_pair
  pub answer : o.answer.answer ≡ record { refusal = k; names = []; finished = false; sums = no_sums; rest = [] }
  pub table : o.table ≡ t
  pub scratch : (w : List ℕ) → scratch_served o.answer.pair w ≡ w

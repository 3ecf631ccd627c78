-- What the dispatcher answers and leaves, as its callers get it by value; and what its helpers answer.
use Rattle.std.specs.Prelude.{ℕ, ◌≡◌, cond, List, length, Option, Some, None}
use Rattle.turns.specs.Dispatcher.{DispatchOutcome, no_pair, some?, next_pair, dispatch, scratch_served, dispatch_answer_of}
use Rattle.model.specs.declared.Pair.{Pair}
use Rattle.model.specs.declared.Table.{Table}
use Rattle.effects.specs.Effects.{no_set}
use Rattle.dispatcher.specs.declared.Handed.{Handed}

-- the pair, where there is one
abbrev pub if_some : Pair → Option Pair
if_some p = cond (some? p) (Some p) None

-- the next pair of a table after this one
abbrev pub next_of : Table → Pair → Pair
next_of t p = next_pair t.n t.controllers p

-- an outcome, as it is handed on by value
unfoldable pub handed_of : DispatchOutcome → Handed
handed_of o = record { answer = dispatch_answer_of o.answer; table = o.table }

-- a refusal, or "none": nothing is changed
unfoldable pub unchanged : Table → ℕ → Handed
unchanged t k = record { answer = record { pair = no_pair; answer = no_set k }; table = t }

-- what is answered, and left of the scratch area w
pub record Dispatches (t : Table) (p : Pair) (w : List ℕ) (answer : Handed) (scratch : List ℕ) : Type 0 where
  pub outcome : answer ≡ handed_of (dispatch t p (length w))
  pub clear : scratch ≡ scratch_served (dispatch t p (length w)).answer.pair w

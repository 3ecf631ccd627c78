-- What the event call, the dispatcher and a commit hand back is what their exported forms say. Assumes nothing.
use mathlib.Core.Path.{ap}
use mathlib.Core.List.{List}
use Prim.Native.Nat.{ℕ}
use lib.ListN.{length}
use Rattle.model.specs.declared.Pair.{Pair}
use Rattle.model.specs.declared.Table.{Table}
use Rattle.model.specs.declared.Answer.{Answer}
use Rattle.lent.specs.Called.{Called}
use Rattle.dispatcher.specs.declared.Handed.{Handed}
use Rattle.dispatcher.specs.Handed.{handed_of, Dispatches}
use Rattle.supervisor.specs.declared.Committed.{Committed}
use Rattle.supervisor.specs.Supervised.{committed_of, Commits}
use Rattle.engine.specs.Called.{Counted, DispatchLeaves, CommitLeaves}

module _ (t : Table) (s w : List ℕ) where
  pub counted : (h : Table) (g : Answer) (p z : List ℕ) → Called t s w h g p z → Counted t s w h g (length p) z
  counted h g p z e = record {
    table_is = e.table_is;
    answer_is = e.answer_is;
    left_is = ap length e.rest_is;
    scratch_is = e.scratch_is;
  }

pub dispatched : (t : Table) (p : Pair) (w : List ℕ) (r : Handed) (z : List ℕ) → Dispatches t p w r z → DispatchLeaves t p w r.table r.answer z
unfolding handed_of
dispatched t p w r z e = record {
  table_is = ap (λ (x : Handed). x.table) e.outcome;
  answer_is = ap (λ (x : Handed). x.answer) e.outcome;
  scratch_is = e.clear;
}

pub taken : (t : Table) (p : Pair) (acts : ℕ) (w : List ℕ) (r : Committed) (z : List ℕ) → Commits t p acts w r z → CommitLeaves t p acts w r.table r.answer z
unfolding committed_of
taken t p acts w r z e = record {
  table_is = ap (λ (x : Committed). x.table) e.outcome;
  answer_is = ap (λ (x : Committed). x.answer) e.outcome;
  scratch_is = e.clear;
}

-- What the laws of ask and commit are stated with besides their definitions.
use Rattle.std.specs.Prelude.{ℕ, ◌≡◌, ◌||◌, cond, List, eqb}
use Rattle.model.specs.Calls.{Outcome, scratch_after, answer_of}
use Rattle.previews.specs.Previews.{Preview}

-- an ask answers the number and the set of an event call, and leaves scratch as it does
pub record Shows (a : Preview) (o : Outcome) : Type 0 where
  pub refusal : a.refusal ≡ o.answer.refusal
  pub names : a.names ≡ o.answer.names
  pub scratch : (w : List ℕ) → scratch_after a.refusal w ≡ scratch_after o.answer.refusal w

-- a commit answers what the caller of an event call gets, and leaves the table and scratch as it does
pub record Matches (q o : Outcome) : Type 0 where
  pub answer : answer_of q.answer ≡ answer_of o.answer
  pub table : q.table ≡ o.table
  pub scratch : (w : List ℕ) → scratch_after q.answer.refusal w ≡ scratch_after o.answer.refusal w

-- the number of a commit whose act count is not the receiver's, where an ask is answered k
unfoldable pub stale_number : ℕ → ℕ
stale_number k = cond (eqb k 4 || (eqb k 8 || eqb k 10)) k 21

-- What a writer of a line answers and leaves in the tail of a listing: question 16.
use Rattle.std.specs.Prelude.{ℕ, ◌+◌, ◌*◌, ◌≡◌, cond, List, [], ◌∷◌, length, leb, Result, IfOk}
use Rattle.lists.specs.Build.{overlay}
use Rattle.model.specs.Tables.{capacity}
use Rattle.model.specs.Questions.{first_no, line_fits}
use Rattle.model.specs.Refusals.{refusal_in}
use Rattle.model.specs.declared.refusal.Refusal.{Refusal}

-- the tail afterwards: the line at its front if it fits, and the bytes after the line as they were
unfoldable pub tail_after : List ℕ → List ℕ → List ℕ
tail_after x s = cond (leb (length x) (length s)) (overlay x s) s

-- a writer of the line x, given the tail s, leaves t and answers r: the number of question 16, and else the bytes written
pub record Wrote (x s t : List ℕ) (r : Result ℕ Refusal) : Type 0 where
  pub answer : refusal_in r ≡ first_no (line_fits (length x) (length s) ∷ [])
  pub written : IfOk r (λ n. n ≡ length x)
  pub tail : t ≡ tail_after x s

-- the most bytes of a line
abbrev pub line_size : ℕ
line_size = 47 + 8 * capacity

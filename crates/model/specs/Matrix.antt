-- The set by a matrix of 64 x 64 flags, which takes 4,096 bytes. That it is the set applied, for every n and every buffer:
-- proofs/Matrix.antt, `matrix_agrees`.
use Rattle.std.specs.Prelude.{ℕ, ◌+◌, ◌*◌, ◌/◌, ◌%◌, cond, List}
use Rattle.lists.specs.Build.{tabulate}
use Rattle.model.specs.Tables.{capacity, in_buffer, flagged}
use Rattle.model.specs.Delivery.{Slots}
use Rattle.model.specs.Rounds.{largest}
use Rattle.model.specs.Largest.{candidate, precedes}
use Rattle.model.specs.declared.Pending.{Pending}

module _ (n : ℕ) (P : List Pending) where
  -- a row for each slot s, with a flag for each slot t: whether s goes before t
  unfoldable pub matrix : List ℕ
  matrix = tabulate (capacity * capacity) (λ k. cond (precedes n P (k / capacity) (k % capacity)) 1 0)

  -- the largest set, by the flags
  unfoldable pub by_matrix : Slots
  by_matrix = largest capacity (in_buffer P) (candidate n P) (λ s t. flagged matrix (s * capacity + t))

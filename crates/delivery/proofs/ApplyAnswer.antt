-- What clearing leaves, what `apply` answers and leaves, and that the matrix gives the same set. Assumes nothing.
use mathlib.Core.Path.{◌≡◌, ap, sym, ◌∙◌}
use mathlib.Core.Bool.{false}
use mathlib.Core.List.{List, ◌++◌}
use Prim.Native.Nat.{ℕ, zero, suc, ◌+◌, ◌-◌, ◌≤◌, ◌<◌, min}
use native.Mathlib.Decide.{dec_lt}
use native.Mathlib.Omega.{arith}
use borrow.Author.Tests.{le-leb, lt-leb}
use lib.ListN.{length, set, drop, replicate, get_or-eq_default}
use Rattle.std.proofs.lemmas.List.Edits.{fill_none, fill_more}
use Rattle.lists.specs.Build.{over}
use Rattle.lists.proofs.Stores.{over_rest}
use Rattle.model.specs.Tables.{scratch_size, capacity}
use Rattle.model.specs.Delivery.{Slots}
use Rattle.model.specs.Rounds.{applicable}
use Rattle.model.specs.Calls.{cleared}
use Rattle.model.specs.Matrix.{by_matrix}
use Rattle.model.proofs.Matrix.{matrix_agrees}
use Rattle.model.specs.declared.Pending.{Pending}
use Rattle.delivery.specs.Apply.{apply_answer, apply_scratch, Applied}

-- CLEARING: the first bytes zero, and the others as they were

zeros-over : (s : List ℕ) (k : ℕ) → k ≤ length s → over (λ i. 0) k s ≡ replicate k 0 ++ drop k s
unfolding over
zeros-over s zero h = fill_none s 0
zeros-over s (suc k) h =
    let e : suc k ≡ k + 1 = omega arith in
    ap (λ t. set t k 0) (zeros-over s k (omega arith)) ∙ fill_more k 0 s (omega arith) ∙ ap (λ j. replicate j 0 ++ drop j s) (sym e)

-- where there are fewer bytes, storing in all of them is enough
pub cleared-all : (s m : List ℕ) (j k : ℕ) → k ≡ min (length s) scratch_size → j ≡ k → m ≡ replicate j 0 → m ++ drop k s ≡ cleared s
unfolding cleared
cleared-all s m j k e q h = ap (λ t. t ++ drop k s) (h ∙ ap (λ i. replicate i 0) q) ∙ sym (zeros-over s k (omega arith)) ∙ elim (dec_lt (length s) scratch_size) [
  | yes l ↦
      let q : k + (scratch_size - k) ≡ scratch_size = omega arith in
      sym (over_rest (λ i. 0) s 0 k (scratch_size - k) (λ i b. sym (get_or-eq_default s 0 (omega arith)))) ∙ rw q
  | no l ↦ let q : k ≡ scratch_size = omega arith in rw q
]

-- THE ANSWER

pub applied_with_room : (n : ℕ) (P : List Pending) (s after : List ℕ) (answer : Slots) → scratch_size ≤ length s
    → answer ≡ applicable n P → after ≡ cleared s → Applied n P s answer after
unfolding apply_answer apply_scratch
applied_with_room n P s after answer l e c = record { set = rw (le-leb scratch_size (length s) l) e; scratch = rw (le-leb scratch_size (length s) l) c }

pub applied_without_room : (n : ℕ) (P : List Pending) (s : List ℕ) → length s < scratch_size → Applied n P s (replicate capacity false) s
unfolding apply_answer apply_scratch
applied_without_room n P s l = record { set = rw (lt-leb scratch_size (length s) l); scratch = rw (lt-leb scratch_size (length s) l) }

-- THE MATRIX, which takes 4,096 bytes, and every scratch area of 64 bytes or more: the same set, whatever the buffer
pub answers_agree : (n : ℕ) (P : List Pending) (s after : List ℕ) (answer : Slots) → scratch_size ≤ length s → Applied n P s answer after → answer ≡ by_matrix n P
unfolding apply_answer
answers_agree n P s after answer l r = r.set ∙ rw (le-leb scratch_size (length s) l) (sym (matrix_agrees n P))

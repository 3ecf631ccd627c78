-- The marks that a controller stores after an entry of its buffer is replaced. Assumes nothing.
use mathlib.Core.Path.{◌≡◌, sym, ap, ◌∙◌}
use mathlib.Core.Logic.{◌≢◌}
use mathlib.Core.List.{List}
use Prim.Native.Nat.{ℕ, suc, ◌-◌, ◌<◌}
use native.Mathlib.Omega.{arith}
use native.Mathlib.Decide.{ℕ_discrete}
use lib.ListN.{length, get_or, set}
use lib.Seq.{get_or-set_same, get_or-set_other}
use Rattle.lists.proofs.Tests.{contradiction}
use Rattle.model.specs.Tables.{seats, capacity, mark, no_pending, forward_number, with_mark}
use Rattle.model.specs.Sized.{SizedController}
use Rattle.model.specs.declared.ForwardNumber.{ForwardNumber}
use Rattle.model.specs.declared.Pending.{Pending}
use Rattle.model.specs.declared.Controller.{Controller}
use Rattle.invariant.proofs.Stores.{marked_held, marked_entry_other, marked_held_other}
use Rattle.consistency.proofs.Bridge.{marks_of, AbsentMarks}

-- Slot j of x is in the buffer with the marks ms, and with mark k of process o; its other slots are those of c.
pub record Marked (c x : Controller) (j : ℕ) (ms : List ForwardNumber) (o k : ℕ) : Type 0 where
  pub new : marks_of x j o ≡ k
  pub given : (f : ℕ) → f ≢ o → marks_of x j f ≡ (get_or ms f (forward_number 0)).0
  pub other : (i f : ℕ) → i ≢ j → marks_of x i f ≡ marks_of c i f
  pub absent_marks : AbsentMarks c → AbsentMarks x

module _ (c : Controller) (z : SizedController c) (j : ℕ) (room : j < capacity) (ms : List ForwardNumber) (sized : length ms ≡ seats)
    (o k : ℕ) (process : o < seats) where
  abbrev x : Controller
  x = with_mark c j ms (suc o) k

  cell : (f : ℕ) → marks_of x j f ≡ (get_or (set ms o (forward_number k)) f (forward_number 0)).0
  cell f =
      let from_zero : suc o - 1 ≡ o = omega arith in
      ap (λ (p : Pending). mark p f) (get_or-set_same c.pending j _ no_pending (omega (arith, z.pending)))
      ∙ ap (λ i. (get_or (set ms i (forward_number k)) f (forward_number 0)).0) from_zero

  elsewhere : (i f : ℕ) → i ≢ j → marks_of x i f ≡ marks_of c i f
  elsewhere i f d = ap (λ (p : Pending). mark p f) (marked_entry_other c j ms (suc o) k i d)

  pub marked : Marked c x j ms o k
  marked = record {
    new = cell o ∙ ap (λ (m : ForwardNumber). m.0) (get_or-set_same ms o (forward_number k) (forward_number 0) (omega arith));
    given = λ f d. cell f ∙ ap (λ (m : ForwardNumber). m.0) (get_or-set_other ms o f (forward_number k) (forward_number 0) d);
    other = elsewhere;
    absent_marks = λ h i f l b e. elim (ℕ_discrete i j) [
      | yes q ↦ contradiction (marked_held c j ms (suc o) k z room) (rw q at e)
      | no q ↦ elsewhere i f q ∙ h i f l b (sym (marked_held_other c j ms (suc o) k i q) ∙ e)
    ];
  }

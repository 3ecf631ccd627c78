-- A good controller stays good when it marks a buffered message, and when it buffers and forwards one that its log lacks.
-- Assumes nothing.
use mathlib.Core.Path.{◌≡◌, sym, ap, ◌∙◌}
use mathlib.Core.Bool.{true, false, ◌||◌}
use mathlib.Core.Logic.{inl, inr}
use mathlib.Core.List.{List}
use Prim.Native.Nat.{ℕ, ◌+◌, ◌≤◌, ◌<◌}
use native.Mathlib.Omega.{arith}
use native.Mathlib.Decide.{ℕ_discrete}
use lib.ListN.{length, get_or, get_or-replicate}
use Rattle.lists.proofs.Tests.{contradiction}
use Rattle.model.specs.Tables.{seats, capacity, absent, yes?, slot_at, entry, held, mark, applied, unheld, forward_number, with_entry, with_mark}
use Rattle.model.specs.Sized.{SizedController}
use Rattle.model.specs.Facts.{in_log, greatest_applied, GoodMark, GoodController}
use Rattle.model.specs.declared.ForwardNumber.{ForwardNumber}
use Rattle.model.specs.declared.Controller.{Controller}
use Rattle.model.specs.declared.Table.{Table}
use Rattle.invariant.proofs.Stores.{marked_held, marked_marks, marked_entry_other, marked_held_other}
use Rattle.invariant.proofs.Logs.{Entered, last, earlier, entered, entered_in_log, entered_in_log_other, not_in_log, log_shorter}

pub unheld-absent : (f : ℕ) → f < seats → mark unheld f ≡ absent
unheld-absent f h = ap (λ (m : ForwardNumber). m.0) (get_or-replicate seats f (forward_number absent) (forward_number 0) h)

pub unheld_marks : {n : ℕ} → n ≤ seats → (f : ℕ) → f < n → GoodMark (get_or unheld.marks f (forward_number 0)).0
unheld_marks few f h = inl (unheld-absent f (omega arith))

-- A slot of the run that is not applied goes into the buffer, or stays there, with good marks.
module _ (t : Table) (i : ℕ) (c : Controller) (g : GoodController t i c) (z : SizedController c) (few : t.n ≤ seats) (fitting : t.count ≤ capacity)
    (s : ℕ) (run : s < t.count) (fresh : applied c s ≡ false)
    (ms : List ForwardNumber) (sized : length ms ≡ seats) (good : (f : ℕ) → f < t.n → GoodMark (get_or ms f (forward_number 0)).0)
    (o k : ℕ) (low : 0 < k) (high : k ≤ 64) where
  marked_good_marks : (r f : ℕ) → r < t.count → held (with_mark c s ms o k) r ≡ true → f < t.n → GoodMark (mark (entry (with_mark c s ms o k).pending r) f)
  marked_good_marks r f h e hf = go (ℕ_discrete r s)
    where
      go : Dec (r ≡ s) → GoodMark (mark (entry (with_mark c s ms o k).pending r) f)
      go (yes p) = rw p (marked_marks c s ms o k GoodMark z (omega arith) sized (inr (low, high)) f (omega arith) (good f hf))
      go (no p) =
          rw (marked_entry_other c s ms o k r p)
          (g.marks r f h (sym (marked_held_other c s ms o k r p) ∙ e) hf)

  marked_apart : (r : ℕ) → r < t.count → held (with_mark c s ms o k) r ≡ true → applied c r ≡ true → ⊥
  marked_apart r h e a = go (ℕ_discrete r s)
    where
      go : Dec (r ≡ s) → ⊥
      go (yes p) = contradiction (rw p at a) fresh
      go (no p) = g.apart r h (sym (marked_held_other c s ms o k r p) ∙ e) a

  marked_outside : (r : ℕ) → r < capacity → t.count ≤ r → (held (with_mark c s ms o k) r ≡ false) × (applied c r ≡ false)
  marked_outside r h l =
      (marked_held_other c s ms o k r (omega arith) ∙ (g.outside r h l).0, (g.outside r h l).1)

  -- it was in the buffer
  pub marked_good : held c s ≡ true → GoodController t i (with_mark c s ms o k)
  unfolding in_log greatest_applied
  marked_good p = record {
    log_room = g.log_room;
    log_run = g.log_run;
    log_once = g.log_once;
    places = g.places;
    marks = marked_good_marks;
    apart = marked_apart;
    outside = marked_outside;
    highest_is = g.highest_is;
    exact = λ e r h. g.exact e r h ∙ ap (λ b. b || applied c r) (sym (go r (ℕ_discrete r s)));
    long = g.long;
  }
    where
      go : (r : ℕ) → Dec (r ≡ s) → held (with_mark c s ms o k) r ≡ held c r
      go r (yes q) = rw q (marked_held c s ms o k z (omega arith) ∙ sym p)
      go r (no q) = marked_held_other c s ms o k r q

  -- its log lacked it
  pub entered_good : in_log c s ≡ false → GoodController t i (with_mark (with_entry c s) s ms o k)
  unfolding greatest_applied
  entered_good lacks = record {
    log_room = omega (arith, shorter);
    log_run = λ j h. below j (view j h);
    log_once = λ j l hj hl. once j l (view j hj) (view l hl);
    places = g.places;
    marks = marked_good_marks;
    apart = marked_apart;
    outside = marked_outside;
    highest_is = g.highest_is;
    exact = λ e r h. exact e r h (ℕ_discrete r s);
    long = λ e r h p. omega (arith, g.long e r h p);
  }
    where
      shorter : c.length < t.count
      shorter = log_shorter t i c g s run lacks

      room : c.length < capacity
      room = omega (arith, shorter)

      view : (j : ℕ) → j < c.length + 1 → Entered c s j
      view = entered c s z room

      below : (j : ℕ) → Entered c s j → slot_at (with_entry c s) j < t.count
      below j (last p q) = rw q run
      below j (earlier p q) = rw q (g.log_run j p)

      once : (j l : ℕ) → Entered c s j → Entered c s l → slot_at (with_entry c s) j ≡ slot_at (with_entry c s) l → j ≡ l
      once j l (last p q) (last p' q') e = omega arith
      once j l (last p q) (earlier p' q') e = absurd (not_in_log c s lacks l p' (sym q' ∙ sym e ∙ q))
      once j l (earlier p q) (last p' q') e = absurd (not_in_log c s lacks j p (sym q ∙ e ∙ q'))
      once j l (earlier p q) (earlier p' q') e = g.log_once j l p p' (sym q ∙ e ∙ q')

      exact : yes? c.running ≡ true → (r : ℕ) → r < t.count → Dec (r ≡ s)
          → in_log (with_mark (with_entry c s) s ms o k) r ≡ (held (with_mark c s ms o k) r || applied c r)
      exact e r h (yes p) = rw (p, marked_held c s ms o k z (omega arith)) (unfold in_log in (entered_in_log c s z room))
      exact e r h (no p) = rw (marked_held_other c s ms o k r p) (unfold in_log in (entered_in_log_other c s z room r p) ∙ g.exact e r h)

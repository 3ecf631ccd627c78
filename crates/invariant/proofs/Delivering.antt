-- What is read after a set was applied, and: a good controller stays good when it applies a set of buffered messages.
-- Assumes nothing.
use mathlib.Core.Path.{◌≡◌, refl, sym, ap, ◌∙◌}
use mathlib.Core.Bool.{Bool, true, false, not, ◌&&◌, ◌||◌, cond}
use Prim.Native.Nat.{ℕ, suc, ◌-◌, max, ◌≤◌, ◌<◌}
use native.Mathlib.Omega.{arith}
use lib.ListN.{get_or}
use borrow.Author.Tests.{not-true}
use Rattle.lists.proofs.Tests.{and_left, and_right, refuted, contradiction}
use Rattle.lists.proofs.Below.{greatest-max}
use Rattle.lists.proofs.Build.{get_d_tabulate}
use Rattle.model.specs.Tables.{seats, capacity, yes?, message, entry, held, mark, applied, highest, unheld, none, no_pending, messages_of}
use Rattle.model.specs.Delivery.{Slots, has}
use Rattle.model.specs.Events.{number_of, highest_in, deliver}
use Rattle.model.specs.Facts.{in_log, greatest_applied, Among, GoodMark, GoodController}
use Rattle.model.specs.declared.MessageNumber.{MessageNumber}
use Rattle.model.specs.declared.Controller.{Controller}
use Rattle.model.specs.declared.Table.{Table}

module _ (t : Table) (c : Controller) (S : Slots) where
  pub delivered_entry : (s : ℕ) → s < capacity → entry (deliver (messages_of t) c S).pending s ≡ cond (has S s) unheld (entry c.pending s)
  unfolding deliver
  delivered_entry s h = get_d_tabulate capacity _ no_pending s h

  pub delivered_held : (s : ℕ) → s < capacity → held (deliver (messages_of t) c S) s ≡ (not (has S s) && held c s)
  delivered_held s h = rw (delivered_entry s h) (go (has S s))
    where
      go : (b : Bool) → yes? (cond b unheld (entry c.pending s)).held ≡ (not b && held c s)
      go true = refl
      go false = refl

  pub delivered_applied : (s : ℕ) → s < capacity → applied (deliver (messages_of t) c S) s ≡ (has S s || applied c s)
  unfolding deliver
  delivered_applied s h = rw (get_d_tabulate capacity (λ s. cond (has S s) 1 (get_or c.applied s 0)) 0 s h) (go (has S s))
    where
      go : (b : Bool) → yes? (cond b 1 (get_or c.applied s 0)) ≡ (b || applied c s)
      go true = refl
      go false = refl

  -- what was buffered or applied still is
  pub delivered_known : (s : ℕ) → s < capacity → (held c s || applied c s) ≡ true → (held (deliver (messages_of t) c S) s || applied (deliver (messages_of t) c S) s) ≡ true
  delivered_known s h e = rw (delivered_held s h, delivered_applied s h) (go (has S s) (held c s) e)
    where
      go : (b k : Bool) → (k || applied c s) ≡ true → (not b && k || (b || applied c s)) ≡ true
      go true k e = refl
      go false k e = e

  pub delivered_highest : (x : ℕ) → Among seats x → highest (deliver (messages_of t) c S) x ≡ max (highest c x) (highest_in (messages_of t) S x)
  unfolding deliver
  delivered_highest x h =
      let q : suc (x - 1) ≡ x = omega arith in
      ap (λ (m : MessageNumber). m.0) (get_d_tabulate seats _ none (x - 1) (omega arith)) ∙ rw q refl

module _ (t : Table) (i : ℕ) (c : Controller) (g : GoodController t i c) (few : t.n ≤ seats) (fitting : t.count ≤ capacity)
    (S : Slots) (buffered : (s : ℕ) → s < capacity → has S s ≡ true → held c s ≡ true) where
  -- what is still in the buffer
  kept : (s : ℕ) → s < capacity → held (deliver (messages_of t) c S) s ≡ true → (has S s ≡ false) × (held c s ≡ true)
  kept s h e =
      let p = sym (delivered_held t c S s h) ∙ e in
      (not-true (has S s) (and_left _ _ p), and_right (not (has S s)) _ p)

  delivered_greatest : (x : ℕ) → greatest_applied (messages_of t) (deliver (messages_of t) c S).applied x ≡ max (greatest_applied (messages_of t) c.applied x) (highest_in (messages_of t) S x)
  unfolding greatest_applied highest_in
  delivered_greatest x =
      greatest-max t.count _ _ _
      (λ s h. rw (delivered_applied t c S s (omega arith)) (go (has S s) (applied c s) (number_of x (message t s))))
    where
      go : (b a : Bool) (k : ℕ) → cond (b || a) k 0 ≡ max (cond a k 0) (cond b k 0)
      go true true k = omega arith
      go true false k = omega arith
      go false true k = omega arith
      go false false k = refl

  pub delivered_good : GoodController t i (deliver (messages_of t) c S)
  unfolding deliver in_log
  delivered_good = record {
    log_room = g.log_room;
    log_run = g.log_run;
    log_once = g.log_once;
    places = g.places;
    marks = λ s f h e hf. marks s f h (kept s (omega arith) e) hf;
    apart = λ s h e a.
        let k = kept s (omega arith) e in
        g.apart s h k.1 (rw k.0 at (sym (delivered_applied t c S s (omega arith)) ∙ a));
    outside = λ s h l. outside s h (g.outside s h l);
    highest_is = λ x h. delivered_highest t c S x (omega arith) ∙ ap (λ y. max y (highest_in (messages_of t) S x)) (g.highest_is x h) ∙ sym (delivered_greatest x);
    exact = λ e s h.
        rw (delivered_held t c S s (omega arith), delivered_applied t c S s (omega arith))
        (g.exact e s h ∙ exact (has S s) (held c s) (applied c s) (buffered s (omega arith)));
    long = g.long;
  }
    where
      marks : (s f : ℕ) → s < t.count → (has S s ≡ false) × (held c s ≡ true) → f < t.n → GoodMark (mark (entry (deliver (messages_of t) c S).pending s) f)
      marks s f h k hf = rw (delivered_entry t c S s (omega arith), k.0) (g.marks s f h k.1 hf)

      outside : (s : ℕ) → s < capacity → (held c s ≡ false) × (applied c s ≡ false) → (held (deliver (messages_of t) c S) s ≡ false) × (applied (deliver (messages_of t) c S) s ≡ false)
      outside s h o =
          let p = refuted (has S s) (λ m. contradiction (buffered s h m) o.0) in
          (rw (delivered_held t c S s h, p) o.0, rw (delivered_applied t c S s h, p) o.1)

      exact : (b h a : Bool) → (b ≡ true → h ≡ true) → (h || a) ≡ (not b && h || (b || a))
      exact true h a f = rw (f refl)
      exact false h a f = refl

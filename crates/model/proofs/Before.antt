-- What the count of "goes before" that a call answers is: of two pending messages, line 16's relation against the majority; of a message
-- that is not pending, none, and before it every mark; on every table, from 0 to n, 0 of a message against itself and if refused, and of
-- both directions together at most n. Assumes nothing.
use mathlib.Core.Path.{◌≡◌, refl, sym, ap, ap₂, ◌∙◌}
use mathlib.Core.Bool.{Bool, true, false, cond}
use mathlib.Core.Logic.{◌≢◌, inl, inr}
use mathlib.Core.List.{List}
use Prim.Native.Nat.{ℕ, zero, suc, min, ◌+◌, ◌≤◌, ◌<◌}
use native.Mathlib.Omega.{arith}
use native.Mathlib.Decide.{ℕ_discrete}
use lib.ListN.{get_or-replicate}
use lib.Dec.{eqb, leb, ltb}
use borrow.Author.Tests.{eqb-true, eq-eqb, ne_eqb, le-ltb}
use Rattle.lists.proofs.Tests.{cond_case, cond_true, cond_false, and_left, and_right, both, contradiction}
use Rattle.lists.proofs.Below.{count_ext, count_none}
use Rattle.model.specs.Tables.{seats, absent, yes?, unheld, at, message, entry, held, mark, messages_of}
use Rattle.model.specs.Delivery.{majority, mark_count, goes_before}
use Rattle.model.specs.Largest.{precedes}
use Rattle.model.specs.Events.{name_of}
use Rattle.model.specs.Questions.{first_no, look_questions}
use Rattle.model.specs.Calls.{here, is_named, pending_below, pending_of, count_before}
use Rattle.model.specs.declared.ForwardNumber.{ForwardNumber}
use Rattle.model.specs.declared.Name.{Name}
use Rattle.model.specs.declared.Pending.{Pending}
use Rattle.model.specs.declared.Table.{Table}
use Rattle.model.specs.Facts.{Among, GoodMark, WellFormed}
use Rattle.model.proofs.Tested.{tested}
use Rattle.model.proofs.Allowed.{look_passed}
use Rattle.model.proofs.Largest.{before_bound, before_itself, before_both}

-- WHAT A NAME STANDS FOR

module _ (t : Table) (P : List Pending) (a : Name) where
  -- what holds of every mark absent, and of every slot that is pending here and has the name
  pub pending_case : (Q : Pending → Type 0) → Q unheld → ((s : ℕ) → s < t.count → here t.messages P a s ≡ true → Q (entry P s)) → Q (pending_of (messages_of t) P a)
  unfolding pending_of pending_below
  pending_case Q none some = go t.count some
    where
      go : (k : ℕ) → ((s : ℕ) → s < k → here t.messages P a s ≡ true → Q (entry P s)) → Q (pending_below k t.messages P a)
      go zero f = none
      go (suc k) f = cond_case Q (here t.messages P a k) (entry P k) (pending_below k t.messages P a) (λ e. f k (omega arith) e) (λ _. go k (λ s h. f s (omega arith)))

  below-found : (k s : ℕ) → s < k → here t.messages P a s ≡ true → ((i : ℕ) → i < k → here t.messages P a i ≡ true → i ≡ s) → pending_below k t.messages P a ≡ entry P s
  unfolding pending_below
  below-found zero s h e only = absurd (omega arith)
  below-found (suc k) s h e only =
      cond_case (λ (p : Pending). p ≡ entry P s) (here t.messages P a k) (entry P k) (pending_below k t.messages P a)
      (λ q. ap (entry P) (only k (omega arith) q))
      (λ q. below-found k s (go q (ℕ_discrete s k)) e (λ i l. only i (omega arith)))
    where
      go : here t.messages P a k ≡ false → Dec (s ≡ k) → s < k
      go q (yes p) = contradiction e (rw p q)
      go q (no d) = omega arith

  -- a message that is not pending here, or not of the run, has every mark absent
  pub pending_none : ((s : ℕ) → s < t.count → here t.messages P a s ≡ false) → pending_of (messages_of t) P a ≡ unheld
  pending_none f = pending_case (λ (p : Pending). p ≡ unheld) refl (λ s h e. contradiction e (f s h))

  -- one that is pending here has the marks of its slot: no other slot has its name
  pub pending_found : WellFormed t → (s : ℕ) → s < t.count → here t.messages P a s ≡ true → pending_of (messages_of t) P a ≡ entry P s
  unfolding pending_of is_named
  pending_found w s h e = below-found t.count s h e (λ i l q. w.names i s l h (sender i q ∙ sym (sender s e)) (number i q ∙ sym (number s e)))
    where
      named : (i : ℕ) → here t.messages P a i ≡ true → is_named a (message t i) ≡ true
      named i q = and_right (yes? (entry P i).held) _ q

      sender : (i : ℕ) → here t.messages P a i ≡ true → (message t i).sender ≡ a.sender
      sender i q = eqb-true (message t i).sender a.sender (and_left _ _ (named i q))

      number : (i : ℕ) → here t.messages P a i ≡ true → (message t i).number.0 ≡ a.number.0
      number i q = eqb-true (message t i).number.0 a.number.0 (and_right (eqb (message t i).sender a.sender) _ (named i q))

-- a message that has no mark goes before none
pub unheld_before : (n : ℕ) (q : Pending) → ((f : ℕ) → f < n → mark q f ≤ absent) → goes_before n unheld q ≡ 0
unfolding goes_before
unheld_before n q m =
    count_none (min n seats) _
    (λ f h. ap (λ (k : ForwardNumber). ltb k.0 (mark q f)) (get_or-replicate seats f _ _ (omega arith)) ∙ le-ltb absent (mark q f) (m f (omega arith)))

-- a message goes before one that has no mark by each of its own marks
pub before_unheld : (n : ℕ) (p : Pending) → goes_before n p unheld ≡ mark_count n p
unfolding goes_before mark_count
before_unheld n p = count_ext (min n seats) _ _ (λ f h. ap (λ (m : ForwardNumber). ltb (mark p f) m.0) (get_or-replicate seats f _ _ (omega arith)))

-- WHAT THE CALL ANSWERS

module _ (t : Table) (c : ℕ) where
  abbrev P : List Pending
  P = (at t c).pending

  answered : WellFormed t → Among t.n c → (a b : Name) → (count_before t c a b).count ≡ goes_before t.n (pending_of (messages_of t) P a) (pending_of (messages_of t) P b)
  unfolding count_before
  answered w h a b = cond_true _ 0 (eq-eqb _ 0 (look_passed t c (tested t w) h))

  -- of two messages that are pending at c, line 16's relation is the count against the majority
  pub count-precedes : WellFormed t → Among t.n c → (s u : ℕ) → s < t.count → u < t.count → held (at t c) s ≡ true → held (at t c) u ≡ true
      → precedes t.n (at t c).pending s u ≡ leb (majority t.n) (count_before t c (name_of (message t s)) (name_of (message t u))).count
  unfolding is_named
  count-precedes w h s u hs hu ps pu =
      ap (leb (majority t.n)) (sym (answered w h _ _ ∙ ap₂ (goes_before t.n) (found s hs ps) (found u hu pu)))
    where
      found : (s : ℕ) → s < t.count → held (at t c) s ≡ true → pending_of (messages_of t) P (name_of (message t s)) ≡ entry P s
      found s h p = pending_found t P (name_of (message t s)) w s h
          (both p (both (eq-eqb (message t s).sender (message t s).sender refl) (eq-eqb (message t s).number.0 (message t s).number.0 refl)))

  module _ (w : WellFormed t) (h : Among t.n c) (a b : Name) where
    -- a message that is not pending at c, or not of the run, goes before none
    pub count-none_before : ((s : ℕ) → s < t.count → here t.messages (at t c).pending a s ≡ false) → (count_before t c a b).count ≡ 0
    count-none_before none = answered w h a b ∙ ap (λ (p : Pending). goes_before t.n p (pending_of (messages_of t) P b)) (pending_none t P a none) ∙ unheld_before t.n _ marks
      where
        least : (k : ℕ) → GoodMark k → k ≤ absent
        least k (inl e) = omega (arith, e)
        least k (inr g) = omega (arith, g.1)

        marks : (f : ℕ) → f < t.n → mark (pending_of (messages_of t) P b) f ≤ absent
        marks = pending_case t P b (λ (q : Pending). (f : ℕ) → f < t.n → mark q f ≤ absent)
            (λ f l. omega (arith, w.few, ap (λ (m : ForwardNumber). m.0) (get_or-replicate seats f (record { 0 = absent }) (record { 0 = 0 }) (omega (arith, w.few)))))
            (λ s l e f lf. least _ ((w.controllers c h).marks s f l (and_left _ _ e) lf))

    -- a message that is pending at c counts its marks before one that is not
    pub count_marks : (s : ℕ) → s < t.count → here t.messages (at t c).pending a s ≡ true → ((u : ℕ) → u < t.count → here t.messages (at t c).pending b u ≡ false)
        → (count_before t c a b).count ≡ mark_count t.n (entry (at t c).pending s)
    count_marks s l e none = answered w h a b ∙ ap₂ (goes_before t.n) (pending_found t P a w s l e) (pending_none t P b none) ∙ before_unheld t.n (entry P s)

  -- ON EVERY TABLE

  pub refusal_counts_none : (a b : Name) → (count_before t c a b).refusal ≢ 0 → (count_before t c a b).count ≡ 0
  unfolding count_before
  refusal_counts_none a b d = cond_false _ 0 (ne_eqb _ 0 d)

  abbrev allowed : Bool
  allowed = eqb (first_no (look_questions t c)) 0

  abbrev counted : Name → Name → ℕ
  counted a b = goes_before t.n (pending_of (messages_of t) P a) (pending_of (messages_of t) P b)

  pub count_bounded : (a b : Name) → (count_before t c a b).count ≤ t.n
  unfolding count_before
  count_bounded a b = cond_case (λ x. x ≤ t.n) allowed (counted a b) 0 (λ _. before_bound t.n _ _) (λ _. omega arith)

  pub count_itself : (a : Name) → (count_before t c a a).count ≡ 0
  unfolding count_before
  count_itself a = cond_case (λ x. x ≡ 0) allowed (counted a a) 0 (λ _. before_itself t.n _) (λ _. refl)

  pub count_both : (a b : Name) → (count_before t c a b).count + (count_before t c b a).count ≤ t.n
  unfolding count_before
  count_both a b = go allowed
    where
      go : (k : Bool) → cond k (counted a b) 0 + cond k (counted b a) 0 ≤ t.n
      go true = before_both t.n _ _
      go false = omega arith

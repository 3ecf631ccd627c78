-- The largest set by slots and stored marks is, by the names of the messages, the largest set of the abstract system. Assumes nothing.
use Prim.Native.Nat.{ℕ, suc, ◌+◌, ◌<◌}
use mathlib.Core.Bool.{Bool, true, false, ◌&&◌}
use mathlib.Core.Path.{◌≡◌, refl, sym, ap, ◌∙◌}
use native.Mathlib.Omega.{arith}
use lib.Dec.{ltb}
use borrow.Author.Tests.{ltb-true, lt-ltb}
use Rattle.lists.proofs.Tests.{and_left, and_right, both}
use Rattle.broadcast.specs.State.{System, State}
use Rattle.broadcast.specs.Delivery.{ClosedSet, LargestSet, Pending, mark, Closed, Largest}
use Rattle.broadcast.proofs.Stable.{quorum_mono}
use Rattle.broadcast.proofs.Stored.{Stored}

-- Items x of one kind answered by items of another, whose marks differ by a constant: p on that side is q on this.
module _ (n quorum p q : ℕ) (absent absent' : ℕ) (Waits Waits' : ℕ → Type 0) (marks marks' : ℕ → ℕ → ℕ) where
  record Partner (u : ℕ → Bool) (x : ℕ) (b : Bool) : Type 0 where
    pub item : ℕ
    pub waits : Waits' item
    pub member : u item ≡ b
    pub same : (f : ℕ) → f < n → marks' item f + p ≡ marks x f + q

  closed_along : absent' + p ≡ absent + q → (t u : ℕ → Bool) → ((x : ℕ) → t x ≡ true → Waits x)
      → ((x : ℕ) → t x ≡ true → Partner u x true) → ((y : ℕ) → Waits y → t y ≡ false → Partner u y false)
      → ClosedSet n quorum absent' Waits' marks' u → ClosedSet n quorum absent Waits marks t
  closed_along e t u waits inside outside w = record {
    pending = waits;
    marks = λ x a. let b = inside x a in
        quorum_mono n quorum (marks' b.item) (λ f. absent') (marks x) (λ f. absent) (λ f l h. omega (arith, b.same f l)) (w.marks b.item b.member);
    before = λ x y a g d. let b = inside x a in let c = outside y g d in
        quorum_mono n quorum (marks' b.item) (marks' c.item) (marks x) (marks y) (λ f l h. omega (arith, b.same f l, c.same f l))
        (w.before b.item c.item b.member c.waits c.member);
  }

-- a message's slot
pub record Slot (slots : ℕ) (name : ℕ → ℕ) (m : ℕ) : Type 0 where
  pub slot : ℕ
  pub below : slot < slots
  pub is : name slot ≡ m

module _ (k : System) (slots : ℕ) (name : ℕ → ℕ) (held : ℕ → Bool) (K : ℕ → ℕ → ℕ) where
  open k use {n, quorum, top}

  abbrev pub SlotPending : ℕ → Type 0
  SlotPending j = (j < slots) × (held j ≡ true)

  abbrev pub SlotClosed : (ℕ → Bool) → Type 0
  SlotClosed = ClosedSet n quorum (suc top) SlotPending K

  abbrev pub SlotLargest : (ℕ → Bool) → Type 0
  SlotLargest = LargestSet n quorum (suc top) SlotPending K

  -- the slots hold what is pending at i, with its marks
  pub record Agrees (s : State) (i : ℕ) : Type 0 where
    pub held_pending : (j : ℕ) → j < slots → held j ≡ true → Pending k s i (name j)
    pub pending_held : (j : ℕ) → j < slots → Pending k s i (name j) → held j ≡ true
    pub slot_of : (m : ℕ) → Pending k s i m → Slot slots name m
    pub marks : Stored k slots name K s i

  module _ (s : State) (i : ℕ) (a : Agrees s i) where
    slot_marks : (m : ℕ) (o : Slot slots name m) → Pending k s i m → (f : ℕ) → f < n → K o.slot f + 0 ≡ mark k s i m f + 1
    slot_marks m o p f l = omega (arith, a.marks.stored o.slot o.below (rw o.is p.undelivered) f l, ap (λ x. mark k s i x f) o.is)

    -- t has the names of the slots of t'
    module _ (t' t : ℕ → Bool) (w : SlotLargest t') (same : (j : ℕ) → j < slots → t (name j) ≡ t' j) (only : (m : ℕ) → t m ≡ true → Slot slots name m) where
      abbrev Among : ℕ → Bool → Type 0
      Among = Partner n quorum 0 1 top (suc top) (Pending k s i) SlotPending (mark k s i) K t'

      member_pending : (m : ℕ) → t m ≡ true → Pending k s i m
      member_pending m h = let o = only m h in
          rw (sym o.is) (a.held_pending o.slot o.below (w.closed.pending o.slot (sym (same o.slot o.below) ∙ rw o.is h)).1)

      partner : (m : ℕ) (b : Bool) → t m ≡ b → Slot slots name m → Pending k s i m → Among m b
      partner m b h o p = record {
        item = o.slot;
        waits = (o.below, a.pending_held o.slot o.below (rw o.is p));
        member = sym (same o.slot o.below) ∙ rw o.is h;
        same = slot_marks m o p;
      }

      names_closed : Closed k s i t
      names_closed = closed_along n quorum 0 1 top (suc top) (Pending k s i) SlotPending (mark k s i) K (omega arith) t t' member_pending
          (λ x h. partner x true h (only x h) (member_pending x h)) (λ y p h. partner y false h (a.slot_of y p) p) w.closed

      module _ (u : ℕ → Bool) (c : Closed k s i u) where
        below : ℕ → Bool
        below j = ltb j slots && u (name j)

        slots_closed : SlotClosed below
        unfolding below
        slots_closed = closed_along n quorum 1 0 (suc top) top SlotPending (Pending k s i) K (mark k s i) (omega arith) below u
            (λ j h. let o = split j h in (o.0, a.pending_held j o.0 (c.pending (name j) o.1)))
            (λ j h. let o = split j h in at j true o.0 (c.pending (name j) o.1) o.1)
            (λ j p h. at j false p.0 (a.held_pending j p.0 p.1) (rw (lt-ltb j slots p.0) at h)) c
          where
            split : (j : ℕ) → below j ≡ true → (j < slots) × (u (name j) ≡ true)
            split j h = (ltb-true j slots (and_left (ltb j slots) (u (name j)) h), and_right (ltb j slots) (u (name j)) h)

            at : (j : ℕ) (b : Bool) → j < slots → Pending k s i (name j) → u (name j) ≡ b → Partner n quorum 1 0 (suc top) top SlotPending (Pending k s i) K (mark k s i) u j b
            at j b l p h = record { item = name j; waits = p; member = h; same = λ f g. omega (arith, slot_marks (name j) (record { slot = j; below = l; is = refl }) p f g) }

        names_largest : (m : ℕ) → u m ≡ true → t m ≡ true
        unfolding below
        names_largest m h =
            let o = a.slot_of m (c.pending m h) in
            let j = o.slot in
            let g : below j ≡ true = both (lt-ltb j slots o.below) (rw o.is h) in
            rw o.is at (same j o.below ∙ (w.largest below slots_closed).each j g)

      pub largest_names : Largest k s i t
      largest_names = record { closed = names_closed; largest = λ u c. record { each = names_largest u c } }

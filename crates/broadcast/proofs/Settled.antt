-- After a delivery nothing is left to deliver, as long as the process has read its own log and no new marks came. Assumes nothing.
use Prim.Native.Nat.{ℕ}
use mathlib.Core.Bool.{Bool, true, false, not, ◌&&◌, false≢true}
use mathlib.Core.Path.{◌≡◌, refl, sym, ap, ◌∙◌}
use mathlib.Core.Logic.{◌≢◌, inl, inr}
use native.Mathlib.Omega.{arith}
use lib.Dec.{ltb}
use borrow.Author.Tests.{ltb-true, lt-ltb, not-true}
use Rattle.lists.proofs.Tests.{and_left, and_right, both, or-false, decided, contradiction}
use Rattle.broadcast.specs.State.{System, State, append, fifo_deliver, scd_deliver, crash}
use Rattle.broadcast.specs.Delivery.{mark, Pending, QuorumLess, Closed, Largest}
use Rattle.broadcast.proofs.Updates.{update_case, update_other, read_case, delivered_after}
use Rattle.broadcast.proofs.Positions.{Entry, appended, unchanged, position_after, grow_case}
use Rattle.broadcast.proofs.Marks.{append_mark, unread_mark}
use Rattle.broadcast.proofs.Stable.{quorum_mono}
use Rattle.broadcast.proofs.Invariant.{Invariant, read_length}

module _ (k : System) where
  open k use {n, quorum, top}

  -- all that is pending at r is marked by a quorum
  pub record AllMarked (s : State) (r : ℕ) : Type 0 where
    pub marks : (y : ℕ) → Pending k s r y → QuorumLess n quorum (mark k s r y) (λ f. top)

  pub record Settled (s : State) (r : ℕ) : Type 0 where
    pub none_pending : s.running r ≡ true → s.read r r ≡ s.length r → AllMarked s r → (y : ℕ) → Pending k s r y → ⊥

  -- r knows the same in two states
  pub record SameView (s u : State) (r : ℕ) : Type 0 where
    pub running : u.running r ≡ true → s.running r ≡ true
    pub read : u.read r r ≡ s.read r r
    pub length : u.length r ≡ s.length r
    pub position : (y : ℕ) → u.position r y ≡ s.position r y
    pub delivered : (y : ℕ) → u.delivered r y ≡ s.delivered r y
    pub mark_same : (y f : ℕ) → mark k u r y f ≡ mark k s r y f

  pub same-settled : (s u : State) (r : ℕ) → SameView s u r → Settled s r → Settled u r
  same-settled s u r e q = record {
    none_pending = λ b l h y p. q.none_pending (e.running b) (sym e.read ∙ l ∙ e.length) (record { marks = before h }) y
        (record { logged = omega (arith, e.position y); undelivered = sym (e.delivered y) ∙ p.undelivered });
  }
    where
      before : AllMarked u r → (y : ℕ) → Pending k s r y → QuorumLess n quorum (mark k s r y) (λ f. top)
      before h y p = quorum_mono n quorum (mark k u r y) (λ f. top) (mark k s r y) (λ f. top) (λ f _ l. omega (arith, e.mark_same y f))
          (h.marks y (record { logged = omega (arith, e.position y); undelivered = e.delivered y ∙ p.undelivered }))

  module _ (s : State) (v : Invariant k s) (c m : ℕ) (w : Entry k s c m) where
    pub append_view : (r : ℕ) → r ≢ c → SameView s (append s c m) r
    unfolding append
    append_view r d = record {
      running = λ b. b;
      read = refl;
      length = grow_case k s c m (λ _ l. l ≡ s.length r) r (λ e. absurd (d e)) (λ _. refl);
      position = λ y. elim (position_after k s c m w.new r y) [ appended a b z e ↦ absurd (d a) | unchanged z e ↦ e ];
      delivered = λ y. refl;
      mark_same = λ y f. append_mark k s c m w.new r y f (read_length k s v r f) (λ e _ _ _. d e);
    }

    -- c has its newest entry to read
    pub append_settled : Settled (append s c m) c
    unfolding append
    append_settled = record {
      none_pending = λ _. grow_case k s c m (λ _ l. s.read c c ≡ l → AllMarked (append s c m) c → (y : ℕ) → Pending k (append s c m) c y → ⊥) c
          (λ _ e. absurd (omega (arith, read_length k s v c c))) (λ d. absurd (d refl));
    }

  pub fifo_deliver_view : (s : State) (r o i : ℕ) → i ≢ r → SameView s (fifo_deliver s r o) i
  unfolding fifo_deliver
  fifo_deliver_view s r o i d = record {
    running = λ b. b;
    read = read_case s r o (λ p. p ≡ s.read i i) i i (λ e _. absurd (d e)) (λ _. refl);
    length = refl;
    position = λ y. refl;
    delivered = λ y. refl;
    mark_same = λ y f. unread_mark k s r o i y f (λ e _ _. d e);
  }

  pub scd_deliver_view : (s : State) (r : ℕ) (t : ℕ → Bool) (i : ℕ) → i ≢ r → SameView s (scd_deliver s r t) i
  unfolding scd_deliver mark
  scd_deliver_view s r t i d = record {
    running = λ b. b;
    read = refl;
    length = refl;
    position = λ y. refl;
    delivered = λ y. ap (λ D. D y) (update_other s.delivered r _ i d);
    mark_same = λ y f. refl;
  }

  pub crash_view : (s : State) (c l i : ℕ) → SameView s (crash s c l) i
  unfolding crash mark
  crash_view s c l i = record {
    running = update_case (λ b. b ≡ true → s.running i ≡ true) s.running c false i (λ _ h. absurd (false≢true h)) (λ _ h. h);
    read = refl;
    length = refl;
    position = λ y. refl;
    delivered = λ y. refl;
    mark_same = λ y f. refl;
  }

  module _ (s : State) (r : ℕ) (t : ℕ → Bool) (w : Largest k s r t) where
    -- all that is pending, as a set
    rest : ℕ → Bool
    rest m = ltb (s.position r m) top && not (s.delivered r m)

    rest_of : (m : ℕ) → Pending k s r m → rest m ≡ true
    unfolding rest
    rest_of m p = both (lt-ltb (s.position r m) top p.logged) (ap not p.undelivered)

    rest_pending : (m : ℕ) → rest m ≡ true → Pending k s r m
    unfolding rest
    rest_pending m h = record {
      logged = ltb-true (s.position r m) top (and_left (ltb (s.position r m) top) (not (s.delivered r m)) h);
      undelivered = not-true (s.delivered r m) (and_right (ltb (s.position r m) top) (not (s.delivered r m)) h);
    }

    rest_closed : AllMarked (scd_deliver s r t) r → Closed k s r rest
    unfolding scd_deliver mark
    rest_closed h = record {
      pending = rest_pending;
      marks = λ x a. let p = rest_pending x a in elim (decided (t x)) [
        | inl e ↦ w.closed.marks x e
        | inr e ↦ h.marks x (record { logged = p.logged; undelivered = rw (delivered_after s r t x, p.undelivered, e) })
      ];
      before = λ x y a p e. contradiction (rest_of y p) e;
    }

    -- if all that is pending is marked by a quorum, it is the set
    pub deliver_settled : Settled (scd_deliver s r t) r
    unfolding scd_deliver
    deliver_settled = record {
      none_pending = λ _ _ h y p.
          let o = or-false (s.delivered r y) (t y) (sym (delivered_after s r t y) ∙ p.undelivered) in
          contradiction ((w.largest rest (rest_closed h)).each y (rest_of y (record { logged = p.logged; undelivered = o.0 }))) o.1;
    }

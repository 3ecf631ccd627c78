-- Marks of a quorum are evidence of majority precedence, so the delivery of a closed set keeps the invariant. Assumes nothing.
use Prim.Native.Nat.{ℕ, ◌≤◌, ◌<◌}
use mathlib.Core.Bool.{Bool, true, false, ◌||◌}
use mathlib.Core.Path.{◌≡◌, sym, ap, ◌∙◌}
use mathlib.Core.Logic.{◌⊎◌, inl, inr}
use native.Mathlib.Omega.{arith}
use native.Mathlib.Decide.{dec_lt}
use lib.Dec.{eqb, ltb}
use borrow.Author.Tests.{ltb-true, eqb-false, not-true}
use Rattle.lists.proofs.Tests.{or_cases, or-false}
use Rattle.lists.proofs.Search.{another}
use Rattle.broadcast.specs.State.{System, State, scd_deliver}
use Rattle.broadcast.specs.Delivery.{mark, QuorumLess, Closed}
use Rattle.broadcast.proofs.Updates.{update_case}
use Rattle.broadcast.proofs.Marks.{Marked, known, unknown, marked}
use Rattle.broadcast.proofs.Stable.{Precedes, Stable, quorum_mono}
use Rattle.broadcast.proofs.Invariant.{Invariant}

module _ (k : System) (s : State) (v : Invariant k s) (i : ℕ) where
  open k use {n, quorum, top, sender}

  abbrev own : ℕ → ℕ → ℕ
  own = mark k s i

  mark_top : (m f : ℕ) → own m f ≤ top
  mark_top m f = elim (marked k s i m f) [ known a e ↦ omega (arith, v.logs.position_top f m) | unknown a d e ↦ omega arith ]

  -- an order of marks is an order of positions, but for a message of i's own that it has not read from its own log
  evidence : (x y f : ℕ) → own x f < own y f → (f ≡ i → sender x ≡ i → (f ≡ i → sender y ≡ i → ⊥) → s.position f x < s.position f y)
      → s.position f x < s.position f y
  evidence x y f h d = go (marked k s i x f) (marked k s i y f)
    where
      go : Marked k s i x f → Marked k s i y f → s.position f x < s.position f y
      go (unknown a b e) q = absurd (omega (arith, mark_top y f))
      go (known a e) (known a' e') = omega arith
      go (known (inl a) e) (unknown a' b' e') = omega arith
      go (known (inr a) e) (unknown a' b' e') = d a.0 a.1 b'

  -- y is not in i's log at all: every mark of x is evidence
  unheard : (x y f : ℕ) → s.position i y ≡ top → own x f < top → s.position f x < s.position f y
  unheard x y f p h = go (marked k s i x f)
    where
      go : Marked k s i x f → s.position f x < s.position f y
      go (unknown a d e) = absurd (omega arith)
      go (known (inr a) e) = let q : s.position f y ≡ top = rw a.0 p in omega arith
      go (known (inl a) e) = elim (dec_lt (s.position f y) (s.read i f)) [
        | yes b ↦ absurd (omega (arith, v.heard i f y b))
        | no b ↦ omega arith
      ]

  -- where a log has x before y, so has the log of x's sender: else y would be before x in both
  sender_agrees : (x y g : ℕ) → s.position g x < s.position g y → s.position (sender x) x < s.position (sender x) y
  sender_agrees x y g h =
      let f = sender x in
      let l : s.position g x < top = omega (arith, v.logs.position_top g y) in
      elim (dec_lt (s.position f x) (s.position f y)) [
        | yes q ↦ q
        | no q ↦ elim (dec_lt (s.position f y) (s.position f x)) [
          | yes q' ↦ absurd (omega (arith, v.logs.causal g x y l q'))
          | no q' ↦ let z : x ≡ y = v.logs.distinct f x y (v.logs.sent g x l) (omega arith) in absurd (omega (arith, ap (s.position g) z))
        ]
      ]

  module _ (process : i < n) where
    -- marks of a quorum are evidence: i alone is no quorum, or is the sender of every message
    quorum_evidence : (x y : ℕ) → s.position i y < top → QuorumLess n quorum (own x) (own y) → Precedes k s.position x y
    quorum_evidence x y p a = elim (dec_lt 1 quorum) [ yes l ↦ several l | no l ↦ single l ]
      where
        unless_own : ((f : ℕ) → f ≡ i → sender x ≡ i → (f ≡ i → sender y ≡ i → ⊥) → s.position f x < s.position f y)
            → Precedes k s.position x y
        unless_own d = quorum_mono n quorum (own x) (own y) (λ f. s.position f x) (λ f. s.position f y) (λ f _ h. evidence x y f h (d f)) a

        several : 1 < quorum → Precedes k s.position x y
        several l =
            let o = another n (λ f. ltb (own x f) (own y f)) i (omega arith) in
            let g = o.which in
            let h = evidence x y g (ltb-true (own x g) (own y g) o.first) (λ e. absurd (eqb-false g i (not-true (eqb g i) o.second) e)) in
            unless_own (λ f e q _. rw (e ∙ sym q) (sender_agrees x y g h))

        single : ¬ (1 < quorum) → Precedes k s.position x y
        single l = unless_own (λ f e _ d. absurd (d e (omega (arith, v.logs.named i y p))))

    module _ (t : ℕ → Bool) (w : Closed k s i t) where
      delivered_stable : Stable k s.position (λ m. s.delivered i m || t m)
      delivered_stable = record { precedes = λ x y a b. go x y (or_cases (s.delivered i x) (t x) a) (or-false (s.delivered i y) (t y) b) }
        where
          go : (x y : ℕ) → (s.delivered i x ≡ true) ⊎ (t x ≡ true) → (s.delivered i y ≡ false) × (t y ≡ false) → Precedes k s.position x y
          go x y (inl a) b = (v.stable i).precedes x y a b.0
          go x y (inr a) b = elim (dec_lt (s.position i y) top) [
            | yes p ↦ quorum_evidence x y p (w.before x y a (record { logged = p; undelivered = b.0 }) b.1)
            | no p ↦ quorum_mono n quorum (own x) (λ f. top) (λ f. s.position f x) (λ f. s.position f y)
                (λ f l h. unheard x y f (omega (arith, v.logs.position_top i y)) h) (w.marks x a)
          ]

      delivered_logged : (m : ℕ) → (s.delivered i m || t m) ≡ true → s.position i m < top
      delivered_logged m h = elim (or_cases (s.delivered i m) (t m) h) [ inl a ↦ v.logged i m a | inr a ↦ (w.pending m a).logged ]

      pub scd_deliver_invariant : Invariant k (scd_deliver s i t)
      unfolding scd_deliver
      scd_deliver_invariant = record {
        logs = v.logs;
        read_readable = v.read_readable;
        readable_length = v.readable_length;
        running_readable = v.running_readable;
        idle = v.idle;
        heard = v.heard;
        logged = λ j m. update_case (λ D. D m ≡ true → s.position j m < top) s.delivered i (λ m. s.delivered i m || t m) j (λ e. rw e (delivered_logged m)) (λ _. v.logged j m);
        stable = λ j. update_case (Stable k s.position) s.delivered i (λ m. s.delivered i m || t m) j (λ _. delivered_stable) (λ _. v.stable j);
      }

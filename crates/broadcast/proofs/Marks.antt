-- How marks follow from positions and reads, and how they change: an append marks nothing but its sender's own message, a read only what it reads.
-- Assumes nothing.
use Prim.Native.Nat.{ℕ, suc, ◌≤◌, ◌<◌}
use mathlib.Core.Bool.{◌&&◌, ◌||◌, cond}
use mathlib.Core.Path.{◌≡◌, refl, sym, ◌∙◌}
use mathlib.Core.Logic.{◌≢◌, ◌⊎◌, inl, inr}
use native.Mathlib.Omega.{arith}
use native.Mathlib.Decide.{ℕ_discrete, dec_lt}
use lib.Dec.{eqb, ltb}
use borrow.Author.Tests.{lt-ltb, le-ltb, eq-eqb, ne_eqb}
use Rattle.broadcast.specs.State.{System, State, append, fifo_deliver}
use Rattle.broadcast.specs.Delivery.{mark}
use Rattle.broadcast.proofs.Updates.{read_case}
use Rattle.broadcast.proofs.Positions.{After, appended, unchanged, position_after}

module _ (k : System) where
  open k use {top, sender}

  pub data Marked (s : State) (i m f : ℕ) : Type 0 where
    known : (s.position f m < s.read i f) ⊎ ((f ≡ i) × (sender m ≡ i)) → mark k s i m f ≡ s.position f m → Marked s i m f
    unknown : s.read i f ≤ s.position f m → (f ≡ i → sender m ≡ i → ⊥) → mark k s i m f ≡ top → Marked s i m f

  pub marked : (s : State) (i m f : ℕ) → Marked s i m f
  unfolding mark
  marked s i m f = go (dec_lt (s.position f m) (s.read i f)) (ℕ_discrete f i) (ℕ_discrete (sender m) i)
    where
      go : Dec (s.position f m < s.read i f) → Dec (f ≡ i) → Dec (sender m ≡ i) → Marked s i m f
      go (yes a) b c = known (inl a) (rw (lt-ltb (s.position f m) (s.read i f) a))
      go (no a) (yes b) (yes c) = known (inr (b, c)) (rw (le-ltb (s.position f m) (s.read i f) (omega arith), eq-eqb f i b, eq-eqb (sender m) i c))
      go (no a) (yes b) (no c) = unknown (omega arith) (λ _ y. c y) (rw (le-ltb (s.position f m) (s.read i f) (omega arith), eq-eqb f i b, ne_eqb (sender m) i c))
      go (no a) (no b) c = unknown (omega arith) (λ x _. b x) (rw (le-ltb (s.position f m) (s.read i f) (omega arith), ne_eqb f i b))

  pub mark-lacking : (s : State) (i m f : ℕ) → s.position f m ≡ top → mark k s i m f ≡ top
  mark-lacking s i m f h = elim (marked s i m f) [ known a e ↦ e ∙ h | unknown a d e ↦ e ]

  module _ (s : State) (c m : ℕ) (new : s.position c m ≡ top) where
    pub append_mark : (i y f : ℕ) → s.read i f ≤ s.length f → (i ≡ c → y ≡ m → f ≡ c → sender m ≡ c → ⊥)
        → mark k (append s c m) i y f ≡ mark k s i y f
    unfolding append mark
    append_mark i y f r d = go (position_after k s c m new f y) (marked (append s c m) i y f)
      where
        go : After k s c m f y ((append s c m).position f y) → Marked (append s c m) i y f → mark k (append s c m) i y f ≡ mark k s i y f
        go (unchanged _ e) q = rw e
        go (appended a b o e) (known (inl l) e') = absurd (omega arith)
        go (appended a b o e) (known (inr l) e') = absurd (d (sym l.0 ∙ a) b a (rw (sym b) (l.1 ∙ sym l.0 ∙ a)))
        go (appended a b o e) (unknown l d' e') = e' ∙ sym (mark-lacking s i y f o)

    pub broadcast_mark : sender m ≡ c → mark k (append s c m) c m c ≡ s.length c
    broadcast_mark b = go (position_after k s c m new c m) (marked (append s c m) c m c)
      where
        go : After k s c m c m ((append s c m).position c m) → Marked (append s c m) c m c → mark k (append s c m) c m c ≡ s.length c
        go (unchanged d e) q = absurd (d refl refl)
        go (appended a' b' o' e) (known a e') = e' ∙ e
        go (appended a' b' o' e) (unknown a d e') = absurd (d refl b)

  ltb_suc : (a b : ℕ) → a ≢ b → ltb a (suc b) ≡ ltb a b
  ltb_suc a b d = elim (dec_lt a b) [
    | yes h ↦ lt-ltb a (suc b) (omega arith) ∙ sym (lt-ltb a b h)
    | no h ↦ le-ltb a (suc b) (omega arith) ∙ sym (le-ltb a b (omega arith))
  ]

  module _ (s : State) (r o : ℕ) where
    pub unread_mark : (i y f : ℕ) → (i ≡ r → f ≡ o → s.position o y ≢ s.read r o) → mark k (fifo_deliver s r o) i y f ≡ mark k s i y f
    unfolding fifo_deliver mark
    unread_mark i y f d =
        read_case s r o (λ p. cond (ltb (s.position f y) p || (eqb f i && eqb (sender y) i)) (s.position f y) top ≡ mark k s i y f) i f
        (λ a b. rw (a, b, ltb_suc (s.position o y) (s.read r o) (d a b)) refl) (λ _. refl)

    pub read_mark : (m : ℕ) → s.position o m ≡ s.read r o → mark k (fifo_deliver s r o) r m o ≡ s.position o m
    unfolding fifo_deliver
    read_mark m e = elim (marked (fifo_deliver s r o) r m o) [
      | known a q ↦ q
      | unknown a d q ↦ absurd (read_case s r o (λ p. p ≤ s.position o m → ⊥) r o (λ _ _ h. omega arith) (λ d. absurd (d refl refl)) a)
    ]

-- What holds of the logs of every reachable state, kept where a log gets one message more. Assumes nothing.
use Prim.Native.Nat.{ℕ, suc, ◌≤◌, ◌<◌}
use mathlib.Core.Path.{◌≡◌, refl, sym, ap, ◌∙◌}
use mathlib.Core.Logic.{◌≢◌}
use native.Mathlib.Omega.{arith}
use Rattle.broadcast.specs.State.{System, State, append}
use Rattle.broadcast.proofs.Updates.{update_case₂, update_at_case}

module _ (k : System) where
  open k use {n, top, many, sender}

  -- positions P in logs of the lengths L
  pub record Logs (P : ℕ → ℕ → ℕ) (L : ℕ → ℕ) : Type 0 where
    pub length_top : (f : ℕ) → L f ≤ top
    pub position_top : (f m : ℕ) → P f m ≤ top
    pub position_length : (f m : ℕ) → P f m < top → P f m < L f
    pub distinct : (f x y : ℕ) → P f x < top → P f x ≡ P f y → x ≡ y
    pub sent : (f m : ℕ) → P f m < top → P (sender m) m < top
    pub named : (f m : ℕ) → P f m < top → (sender m < n) × (m < many)
    -- what is before m in its sender's log is before m in every log that has m
    pub causal : (f m z : ℕ) → P f m < top → P (sender m) z < P (sender m) m → P f z < P f m

  module _ (s : State) (c m : ℕ) where
    abbrev P : ℕ → ℕ → ℕ
    P = s.position

    abbrev L : ℕ → ℕ
    L = s.length

    abbrev P' : ℕ → ℕ → ℕ
    P' = (append s c m).position

    abbrev L' : ℕ → ℕ
    L' = (append s c m).length

    -- what m needs to enter c's log: c is its sender, or has what is before m in its sender's log
    pub record Entry : Type 0 where
      pub room : L c < top
      pub new : P c m ≡ top
      pub from : (sender m < n) × (m < many)
      pub known : c ≢ sender m → P (sender m) m < top
      pub ordered : c ≢ sender m → (z : ℕ) → P (sender m) z < P (sender m) m → P c z < top

    -- a position afterwards
    pub data After (f y p : ℕ) : Type 0 where
      appended : f ≡ c → y ≡ m → P f y ≡ top → p ≡ L f → After f y p
      unchanged : (f ≡ c → y ≡ m → ⊥) → p ≡ P f y → After f y p

    module _ (new : P c m ≡ top) where
      pub position_after : (f y : ℕ) → After f y (P' f y)
      unfolding append
      position_after f y = update_at_case (After f y) P c m (L c) f y (λ a b. appended a b (rw (a, b) new) (rw a refl)) (λ d. unchanged d refl)

      pub position_kept : (f y : ℕ) → P f y < top → P' f y ≡ P f y
      position_kept f y h = elim (position_after f y) [ appended a b o e ↦ absurd (omega arith) | unchanged d e ↦ e ]

    -- lengths and readable lengths afterwards
    pub grow_case : (Q : ℕ → ℕ → Type 0) (f : ℕ) → (f ≡ c → Q (suc (s.readable f)) (suc (L f))) → (f ≢ c → Q (s.readable f) (L f))
        → Q ((append s c m).readable f) (L' f)
    unfolding append
    grow_case Q f h d = update_case₂ Q s.readable L c (suc (s.readable c)) (suc (L c)) f (λ e. rw (sym e) (h e)) d

    module _ (w : Entry) (v : Logs P L) where
      abbrev at : (f y : ℕ) → After f y (P' f y)
      at = position_after w.new

      abbrev kept : (f y : ℕ) → P f y < top → P' f y ≡ P f y
      kept = position_kept w.new

      -- what was before y is before y
      pub order_kept : (f x y : ℕ) → P f x < P f y → P' f x < P' f y
      order_kept f x y h = elim (at f y) [
        | appended a b o e ↦ omega (arith, kept f x (omega arith), v.position_length f x (omega arith))
        | unchanged d e ↦ omega (arith, kept f x (omega (arith, v.position_top f y)))
      ]

      distinct' : (f x y : ℕ) → P' f x < top → P' f x ≡ P' f y → x ≡ y
      distinct' f x y h q = go (at f x) (at f y)
        where
          go : After f x (P' f x) → After f y (P' f y) → x ≡ y
          go (appended a b o e) (appended a' b' o' e') = omega arith
          go (appended a b o e) (unchanged d' e') = absurd (omega (arith, v.position_length f y (omega arith)))
          go (unchanged d e) (appended a' b' o' e') = absurd (omega (arith, v.position_length f x (omega arith)))
          go (unchanged d e) (unchanged d' e') = v.distinct f x y (omega arith) (omega arith)

      sent' : (f y : ℕ) → P' f y < top → P' (sender y) y < top
      sent' f y h = go (at f y) (at (sender y) y)
        where
          go : After f y (P' f y) → After (sender y) y (P' (sender y) y) → P' (sender y) y < top
          go (unchanged d e) l = let p = v.sent f y (omega arith) in omega (arith, kept (sender y) y p)
          go (appended a b o e) (appended a' b' o' e') = omega (arith, ap L a')
          go (appended a b o e) (unchanged d' e') = let p : P (sender y) y < top = rw b (w.known (λ q. d' (rw b (sym q)) b)) in omega arith

      causal' : (f y z : ℕ) → P' f y < top → P' (sender y) z < P' (sender y) y → P' f z < P' f y
      causal' f y z h l = go (at f y) (at (sender y) y) (at (sender y) z)
        where
          go : After f y (P' f y) → After (sender y) y (P' (sender y) y) → After (sender y) z (P' (sender y) z) → P' f z < P' f y
          go (appended a b o e) (appended a' b' o' e') q = rw (a ∙ sym a') l
          go (appended a b o e) (unchanged d' e') (appended a' b' o' e'') = absurd (d' a' b)
          go (appended a b o e) (unchanged d' e') (unchanged d'' e'') =
              let p : P f z < top = rw a (w.ordered (λ q. d' (rw b (sym q)) b) z (rw (sym b) (omega arith))) in
              omega (arith, kept f z p, v.position_length f z p)
          go (unchanged d e) q (appended a' b' o' e'') =
              let p = v.sent f y (omega arith) in
              absurd (omega (arith, kept (sender y) y p, v.position_length (sender y) y p))
          go (unchanged d e) q (unchanged d'' e'') =
              let p = v.sent f y (omega arith) in
              order_kept f z y (v.causal f y z (omega arith) (omega (arith, kept (sender y) y p)))

      pub append_logs : Logs P' L'
      append_logs = record {
        length_top = λ f. grow_case (λ _ l. l ≤ top) f (λ e. omega (arith, ap L e)) (λ _. v.length_top f);
        position_top = λ f y. elim (at f y) [ appended a b o e ↦ omega (arith, v.length_top f) | unchanged d e ↦ omega (arith, v.position_top f y) ];
        position_length = λ f y h. elim (at f y) [
          | appended a b o e ↦ grow_case (λ _ l. P' f y < l) f (λ _. omega arith) (λ d. absurd (d a))
          | unchanged d e ↦ let p = v.position_length f y (omega arith) in grow_case (λ _ l. P' f y < l) f (λ _. omega arith) (λ _. omega arith)
        ];
        distinct = distinct';
        sent = sent';
        named = λ f y h. elim (at f y) [ appended a b o e ↦ rw b w.from | unchanged d e ↦ v.named f y (omega arith) ];
        causal = causal';
      }

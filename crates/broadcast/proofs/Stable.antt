-- Sets that precede every other message at a quorum of logs: any two are comparable. Assumes nothing.
use Prim.Native.Nat.{ℕ, ◌<◌}
use mathlib.Core.Bool.{Bool, true, false, not}
use mathlib.Core.Path.{◌≡◌, ap}
use mathlib.Core.Logic.{inl, inr}
use native.Mathlib.Omega.{arith}
use lib.Dec.{ltb}
use borrow.Author.Tests.{ltb-true, lt-ltb, not-true}
use Rattle.lists.proofs.Tests.{by_contradiction}
use Rattle.lists.proofs.Below.{count_le}
use Rattle.lists.proofs.Search.{meet, meet_or_apart}
use Rattle.broadcast.specs.State.{System}
use Rattle.broadcast.specs.Delivery.{QuorumLess}
use Rattle.broadcast.specs.Events.{Comparable}

pub quorum_mono : (n quorum : ℕ) (a b c d : ℕ → ℕ) → ((f : ℕ) → f < n → a f < b f → c f < d f) → QuorumLess n quorum a b → QuorumLess n quorum c d
quorum_mono n quorum a b c d h e =
    omega (arith, count_le n (λ f. ltb (a f) (b f)) (λ f. ltb (c f) (d f)) (λ f l t. lt-ltb (c f) (d f) (h f l (ltb-true (a f) (b f) t))))

module _ (k : System) where
  open k use {n, quorum, many}

  -- majority precedence, by the positions P
  abbrev pub Precedes : (ℕ → ℕ → ℕ) → ℕ → ℕ → Type 0
  Precedes P x y = QuorumLess n quorum (λ f. P f x) (λ f. P f y)

  pub record Stable (P : ℕ → ℕ → ℕ) (D : ℕ → Bool) : Type 0 where
    pub precedes : (x y : ℕ) → D x ≡ true → D y ≡ false → Precedes P x y

  pub stable_mono : (P Q : ℕ → ℕ → ℕ) → ((f x y : ℕ) → P f x < P f y → Q f x < Q f y) → (D : ℕ → Bool) → Stable P D → Stable Q D
  stable_mono P Q h D g = record { precedes = λ x y a b. quorum_mono n quorum (λ f. P f x) (λ f. P f y) (λ f. Q f x) (λ f. Q f y) (λ f _. h f x y) (g.precedes x y a b) }

  precedes_asymmetric : (P : ℕ → ℕ → ℕ) (x y : ℕ) → Precedes P x y → Precedes P y x → ⊥
  precedes_asymmetric P x y a b =
      let w = meet n (λ f. ltb (P f x) (P f y)) (λ f. ltb (P f y) (P f x)) (omega arith) in
      let f = w.which in
      omega (arith, ltb-true (P f x) (P f y) w.first, ltb-true (P f y) (P f x) w.second)

  pub stable_comparable : (P : ℕ → ℕ → ℕ) (A B : ℕ → Bool) → Stable P A → Stable P B → ((m : ℕ) → A m ≡ true → m < many) → Comparable A B
  stable_comparable P A B a b small = elim (meet_or_apart many A (λ m. not (B m))) [
    | inl o ↦ inr (record { each = λ y h. other o.which y o.first (not-true (B o.which) o.second) h })
    | inr d ↦ inl (record { each = λ m h. by_contradiction (B m) (λ e. d m (small m h) h (ap not e)) })
  ]
    where
      other : (x y : ℕ) → A x ≡ true → B x ≡ false → B y ≡ true → A y ≡ true
      other x y p q h = by_contradiction (A y) (λ e. precedes_asymmetric P x y (a.precedes x y p e) (b.precedes y x h q))

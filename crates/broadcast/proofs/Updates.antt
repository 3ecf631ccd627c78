-- Laws of functions changed at one argument, of read positions after one entry more, and of what is delivered. Assumes nothing.
use Prim.Native.Nat.{ℕ, suc}
use mathlib.Core.Bool.{Bool, true, false, ◌||◌, cond}
use mathlib.Core.Path.{◌≡◌, refl, ap}
use mathlib.Core.Logic.{◌≢◌}
use lib.Dec.{eqb}
use borrow.Author.Tests.{eqb-true, eqb-false}
use Rattle.broadcast.specs.State.{State, update, update_at, fifo_deliver, scd_deliver}

-- two functions changed at the same argument: what holds of the new values there, and of the old ones elsewhere, holds everywhere
pub update_case₂ : {A B : Type 0} (Q : A → B → Type 0) (f : ℕ → A) (g : ℕ → B) (c : ℕ) (v : A) (w : B) (x : ℕ)
    → (x ≡ c → Q v w) → (x ≢ c → Q (f x) (g x)) → Q (update f c v x) (update g c w x)
unfolding update
update_case₂ Q f g c v w x h d = go (eqb x c) refl
  where
    go : (b : Bool) → eqb x c ≡ b → Q (cond b v (f x)) (cond b w (g x))
    go true e = h (eqb-true x c e)
    go false e = d (eqb-false x c e)

pub update_case : {A : Type 0} (Q : A → Type 0) (f : ℕ → A) (c : ℕ) (v : A) (x : ℕ) → (x ≡ c → Q v) → (x ≢ c → Q (f x)) → Q (update f c v x)
update_case Q f c v x h d = update_case₂ (λ a _. Q a) f f c v v x h d

pub update_same : {A : Type 0} (f : ℕ → A) (c : ℕ) (v : A) → update f c v c ≡ v
update_same f c v = update_case (λ a. a ≡ v) f c v c (λ _. refl) (λ d. absurd (d refl))

pub update_other : {A : Type 0} (f : ℕ → A) (c : ℕ) (v : A) (x : ℕ) → x ≢ c → update f c v x ≡ f x
update_other f c v x d = update_case (λ a. a ≡ f x) f c v x (λ e. absurd (d e)) (λ _. refl)

pub update_at_case : (Q : ℕ → Type 0) (f : ℕ → ℕ → ℕ) (c d v x y : ℕ) → (x ≡ c → y ≡ d → Q v) → ((x ≡ c → y ≡ d → ⊥) → Q (f x y))
    → Q (update_at f c d v x y)
unfolding update_at
update_at_case Q f c d v x y h g = update_case (λ row. Q (row y)) f c (update (f c) d v) x
    (λ e. update_case Q (f c) d v y (λ e'. h e e') (λ n. rw (← e) (g (λ _ e'. n e'))))
    (λ n. g (λ e _. n e))

pub read_case : (s : State) (r o : ℕ) (Q : ℕ → Type 0) (i f : ℕ) → (i ≡ r → f ≡ o → Q (suc (s.read i f))) → ((i ≡ r → f ≡ o → ⊥) → Q (s.read i f))
    → Q ((fifo_deliver s r o).read i f)
unfolding fifo_deliver
read_case s r o Q i f h g = update_at_case Q s.read r o (suc (s.read r o)) i f (λ a b. rw (← a, ← b) (h a b)) g

pub delivered_after : (s : State) (r : ℕ) (t : ℕ → Bool) (m : ℕ) → (scd_deliver s r t).delivered r m ≡ (s.delivered r m || t m)
unfolding scd_deliver
delivered_after s r t m = ap (λ D. D m) (update_same s.delivered r (λ m. s.delivered r m || t m))

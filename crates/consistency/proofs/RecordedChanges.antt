-- An event replaces its subject in the table and a value of the ledger with it: what holds of both after it. Assumes nothing.
use mathlib.Core.Path.{◌≡◌, refl}
use mathlib.Core.Logic.{◌≢◌}
use Prim.Native.Nat.{ℕ}
use lib.Dec.{eqb}
use borrow.Author.Tests.{eqb-true, eqb-false}
use Rattle.lists.proofs.Tests.{cond_case}
use Rattle.model.specs.Tables.{at}
use Rattle.model.specs.Events.{subject, after, next}
use Rattle.model.specs.Questions.{first_no, event_questions}
use Rattle.model.specs.declared.Controller.{Controller}
use Rattle.model.specs.declared.Table.{Table}
use Rattle.model.specs.declared.Event.{Event}
use Rattle.model.specs.Facts.{Among}
use Rattle.model.proofs.Allowed.{subject_allowed}
use Rattle.invariant.proofs.Stores.{seated}
use Rattle.invariant.proofs.Sizes.{next_case}
use Rattle.consistency.specs.Ledger.{Ledger, put}
use Rattle.consistency.proofs.Recorded.{Recorded}

pub put_case : {A : Type 0} (P : A → Type 0) (f : ℕ → A) (x : ℕ) (v : A) (y : ℕ) → (y ≡ x → P v) → (y ≢ x → P (f y)) → P (put f x v y)
unfolding put
put_case P f x v y g h = cond_case P (eqb y x) v (f y) (λ e. g (eqb-true y x e)) (λ e. h (eqb-false y x e))

module _ {t : Table} {l : Ledger} (k : Recorded t.n t l) (e : Event) (q : first_no (event_questions t e) ≡ 0) {d : ℕ} (h : Among t.n d) where
  pub at_case : (P : Controller → Type 0) → (d ≡ subject e → P (after t e)) → (d ≢ subject e → P (at t d)) → P (at (next t e) d)
  at_case P = next_case t e k.sized (seated k.formed.few (subject_allowed t e q)) P d (seated k.formed.few h)

  -- what the subject has as it had it, every controller has as it had it
  pub at_kept : {A : Type 0} (f : Controller → A) → f (after t e) ≡ f (at t (subject e)) → f (at (next t e) d) ≡ f (at t d)
  at_kept f w = at_case (λ y. f y ≡ f (at t d)) (λ p. rw p w) (λ _. refl)

  pub put-at : {A : Type 0} (Q : A → Controller → Type 0) (f : ℕ → A) (v : A) → Q v (after t e) → Q (f d) (at t d) → Q (put f (subject e) v d) (at (next t e) d)
  put-at Q f v new old =
      at_case (Q (put f (subject e) v d))
      (λ p. put_case (λ a. Q a (after t e)) f (subject e) v d (λ _. new) (λ n. absurd (n p)))
      (λ n. put_case (λ a. Q a (at t d)) f (subject e) v d (λ p. absurd (n p)) (λ _. old))

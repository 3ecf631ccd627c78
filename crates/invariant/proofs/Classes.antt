-- On a well-formed table every message is of one of the classes that a panel shows, so that their sums add up to the whole sums.
-- Assumes nothing.
use mathlib.Core.Path.{◌≡◌, refl, sym, ap, fun_ext, ◌∙◌}
use mathlib.Core.Bool.{Bool, true, false, ◌&&◌, cond}
use mathlib.Core.List.{foldr}
use Prim.Native.Nat.{ℕ, zero, suc, ◌+◌, ◌≤◌}
use native.Mathlib.Omega.{arith}
use lib.Dec.{eqb, ltb}
use borrow.Author.Tests.{leb-true, eqb-true}
use Rattle.lists.specs.Below.{sum}
use Rattle.lists.specs.Build.{tabulate_from, tabulate}
use Rattle.lists.proofs.Tests.{and_right, cond_case}
use Rattle.lists.proofs.Below.{sum_ext, sum-plus}
use Rattle.lists.proofs.Clipped.{sum-none}
use Rattle.model.specs.Tables.{last_class, class_count, no_sums, message, applied, messages_of}
use Rattle.model.specs.Events.{weigh, both_of, plus, sums, of_class, class_sums, shown}
use Rattle.model.specs.Fair.{fair_class}
use Rattle.model.specs.declared.Sums.{Sums}
use Rattle.model.specs.declared.Payload.{Payload}
use Rattle.model.specs.declared.Controller.{Controller}
use Rattle.model.specs.declared.Table.{Table}
use Rattle.model.specs.Facts.{WellFormed}

class_bound : (v : ℕ) (p : Payload) → fair_class v p ≡ true → p.class ≤ last_class
unfolding fair_class
class_bound v p =
    cond_case (λ b. b ≡ true → p.class ≤ last_class) (eqb v 2 && eqb p.kind 1) _ _
    (λ _ e. leb-true p.class last_class (and_right (ltb 0 p.class) _ e)) (λ _ e. omega (arith, eqb-true p.class 0 e))

-- the sum over the classes
abbrev over : (ℕ → ℕ) → ℕ
over f = foldr ◌+◌ 0 (tabulate class_count f)

-- a number that one class has
one_class : (c x : ℕ) → c ≤ last_class → over (λ k. cond (eqb c k) x 0) ≡ x
unfolding tabulate tabulate_from
one_class zero x h = omega arith
one_class (suc zero) x h = omega arith
one_class (suc (suc zero)) x h = omega arith
one_class (suc (suc (suc zero))) x h = omega arith
one_class (suc (suc (suc (suc zero)))) x h = omega arith
one_class (suc (suc (suc (suc (suc c))))) x h = absurd (omega arith)

-- sums of sums, in either order
sums_swapped : (f : ℕ → ℕ → ℕ) (i m n : ℕ) → foldr ◌+◌ 0 (tabulate_from i m (λ k. sum n (f k))) ≡ sum n (λ s. foldr ◌+◌ 0 (tabulate_from i m (λ k. f k s)))
unfolding tabulate_from
sums_swapped f i zero n = sum-none _ n (λ _. refl)
sums_swapped f i (suc m) n = ap (λ x. sum n (f i) + x) (sums_swapped f (suc i) m n) ∙ sym (sum-plus n _ _)

-- the weight of a payload, where it counts
each_class : (v : Payload → ℕ) (p : Payload) → p.class ≤ last_class → (b : Bool) → over (λ k. cond b (of_class k v p) 0) ≡ cond b (v p) 0
unfolding tabulate tabulate_from
each_class v p h true = one_class p.class (v p) h
each_class v p h false = refl

-- sums are added up part by part
by_parts : (f : ℕ → Sums) (i m : ℕ)
    → foldr plus no_sums (tabulate_from i m f) ≡ record { added = foldr ◌+◌ 0 (tabulate_from i m (λ k. (f k).added)); withdrawn = foldr ◌+◌ 0 (tabulate_from i m (λ k. (f k).withdrawn)) }
unfolding tabulate_from
by_parts f i zero = refl
by_parts f i (suc m) = ap (plus (f i)) (by_parts f (suc i) m)

module _ (t : Table) (w : WellFormed t) (x : Controller) where
  weights_add_up : (v : Payload → ℕ) → over (λ k. weigh (of_class k v) (messages_of t) x.applied) ≡ weigh v (messages_of t) x.applied
  unfolding weigh tabulate
  weights_add_up v =
      sums_swapped (λ k s. cond (applied x s) (of_class k v (message t s).payload) 0) 0 class_count t.count
      ∙ sum_ext t.count _ _ (λ s h. each_class v (message t s).payload (class_bound t.version _ (w.classes s h)) (applied x s))

  pub classes_add_up : foldr plus no_sums (shown (messages_of t) x.applied).classes ≡ (shown (messages_of t) x.applied).sums
  unfolding shown sums class_sums tabulate
  classes_add_up = by_parts (class_sums (messages_of t) x.applied) 0 class_count ∙ ap (λ (f : (Payload → ℕ) → ℕ). both_of f) (fun_ext weights_add_up)

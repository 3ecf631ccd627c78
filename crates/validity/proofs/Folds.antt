-- Tests that a fold joins, each of an element, are those of `all`. Assumes nothing.
use mathlib.Core.Path.{◌≡◌, refl, ◌∙◌}
use mathlib.Core.Bool.{Bool, true, false, ◌&&◌}
use mathlib.Core.List.{List, [], ◌∷◌}
use Prim.Native.Nat.{ℕ, ◌<◌}
use denote.Param.Members.{Mut}
use Rattle.std.specs.Prelude.{Option}
use Rattle.std.specs.Fn.{Called}
use Rattle.std.specs.Iterator.{Drains}
use Rattle.std.specs.List.{FoldsTo, fold, list_all}
use Rattle.std.proofs.lemmas.Iterator.{YieldsList}
use Rattle.std.proofs.lemmas.Iterator.Consumers.{fold_from_yields_List}
use Rattle.lists.specs.Below.{all}
use Rattle.lists.proofs.Chains.{Reads, reads_all}

module _ {B : Type 0} (test : B → Bool) where
  joined : (xs : List B) (good : Bool) → fold (λ a x. test x && a) good xs ≡ (list_all test xs && good)
  joined [] good = refl
  joined (x ∷ xs) good = joined xs (test x && good) ∙ regroup (test x) (list_all test xs)
    where
      regroup : (a b : Bool) → (b && (a && good)) ≡ ((a && b) && good)
      regroup true b = refl
      regroup false true = refl
      regroup false false = refl

  whole : (a : Bool) → (a && true) ≡ a
  whole true = refl
  whole false = refl

  -- a call of `fold` whose closure joins the test of an element to those before
  pub folded : {S A F : Type 0} {steps : S → Option A → S → Type 0} {v : A → B} {s : S} {xs : List B} {m : ℕ} {at : ℕ → B} (p : ℕ → Bool) (g : Mut F (Bool × (A × Unit {0})) Bool) {f : F} (r : Bool)
      → ((ys : List A) × (q : F) × Drains steps s ys × FoldsTo {P = F × Bool} (λ a x b. Called g a.0 (a.1, (x, tt)) b.1 b.0) (f, true) ys (q, r))
      → YieldsList steps v s xs → ((a : Bool) (x : A) (b : Bool) (q : F) → Called g f (a, (x, tt)) b q → (q ≡ f) × (b ≡ (test (v x) && a)))
      → Reads xs m at → ((k : ℕ) → k < m → test (at k) ≡ p k) → r ≡ all m p
  folded {xs = xs} p g r ran yields calls reads same =
      fold_from_yields_List g (λ a x. test x && a) true r ran yields calls ∙ joined xs true ∙ whole (list_all test xs) ∙ reads_all test p reads same

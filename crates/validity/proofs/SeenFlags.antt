-- Flags that are set one by one tell which values were taken, and so whether a new one is distinct from those before.
-- Assumes nothing.
use mathlib.Core.Path.{◌≡◌, refl, sym, ◌∙◌}
use mathlib.Core.Bool.{Bool, true, false, ◌||◌}
use mathlib.Core.List.{List}
use Prim.Native.Nat.{ℕ, ◌+◌, ◌≤◌, ◌<◌}
use native.Mathlib.Numerals.{add-one}
use native.Mathlib.Omega.{arith}
use native.Mathlib.Decide.{ℕ_discrete}
use lib.ListN.{get_or, set, replicate, length-replicate, get_or-replicate}
use lib.Dec.{eqb}
use borrow.Author.Tests.{eqb-true, eq-eqb, ne_eqb, ltb-true}
use Rattle.lists.specs.Below.{count, distinct}
use Rattle.lists.specs.Build.{tabulate}
use Rattle.lists.proofs.Tests.{contradiction, refuted, below_suc}
use Rattle.lists.proofs.Below.{count-found, distinct-at, distinct_of}
use Rattle.lists.proofs.Build.{tabulate_self, tabulate_ext, get_d_tabulate}
use Rattle.lists.proofs.Clipped.{any_found}
use Rattle.lists.proofs.Grow.{some_last}
use Rattle.lists.proofs.Stores.{set-tabulate}
use Rattle.validity.specs.Flags.{taken}

module _ (f : ℕ → ℕ) where
  taken_last : (k j : ℕ) → taken f (k + 1) j ≡ (eqb (f k) j || taken f k j)
  unfolding taken
  taken_last k j = rw add-one (some_last k (λ i. eqb (f i) j))

  none-taken : (n : ℕ) → replicate n false ≡ tabulate n (taken f 0)
  unfolding taken count
  none-taken n = sym (tabulate_self (replicate n false) false n (taken f 0) (length-replicate n false) (λ k h. sym (get_or-replicate n k false false h)))

  -- the flag of the next value is set
  next-taken : (n k : ℕ) (F : List Bool) → f k < n → F ≡ tabulate n (taken f k) → set F (f k) true ≡ tabulate n (taken f (k + 1))
  next-taken n k F h e =
      rw e
      (set-tabulate n (taken f k) (taken f (k + 1)) false (f k) true h (sym (taken_last k (f k) ∙ rw (eq-eqb (f k) (f k) refl) refl))
      (λ j l d. sym (taken_last k j ∙ rw (ne_eqb (f k) j (λ p. d (sym p))) refl)))

  -- what has no flag sets none
  untaken : (n k : ℕ) (F : List Bool) → n ≤ f k → F ≡ tabulate n (taken f k) → F ≡ tabulate n (taken f (k + 1))
  untaken n k F h e = e ∙ tabulate_ext n _ _ false (λ j l. sym (taken_last k j ∙ rw (ne_eqb (f k) j (omega arith)) refl))

-- ONE PASS, in which each place has a value with a flag, or none

distinct_more : (same : ℕ → ℕ → Bool) (k : ℕ) → distinct k same ≡ true → ((j : ℕ) → j < k → same k j ≡ false) → distinct (k + 1) same ≡ true
distinct_more same k before new = distinct_of (k + 1) same (λ i j h l. go i j h l (ℕ_discrete i k))
  where
    go : (i j : ℕ) → i < k + 1 → j < i → Dec (i ≡ k) → same i j ≡ false
    go i j h l (yes p) = rw p (new j (omega arith))
    go i j h l (no p) = distinct-at k same before i j (omega (arith, p)) l

module _ (n : ℕ) (f : ℕ → ℕ) (same : ℕ → ℕ → Bool) (Good : ℕ → Type 0) where
  -- the first k places were read: the flags of their values, that they are good, and that no two are alike
  pub record Read (k : ℕ) (F : List Bool) : Type 0 where
    pub flags : F ≡ tabulate n (taken f k)
    pub good : (j : ℕ) → j < k → Good j
    pub apart : distinct k same ≡ true

  pub none_read : Read 0 (replicate n false)
  none_read = record { flags = none-taken f n; good = λ j h. absurd (omega arith); apart = distinct_of 0 same (λ i j h. absurd (omega arith)) }

  module _ (k : ℕ) (F : List Bool) (r : Read k F) where
    good_more : Good k → (j : ℕ) → j < k + 1 → Good j
    good_more good j h = below_suc Good k good r.good j (omega arith)

    pub passed_over : Good k → n ≤ f k → ((j : ℕ) → j < k → same k j ≡ false) → Read (k + 1) F
    passed_over good h new = record { flags = untaken f n k F h r.flags; good = good_more good; apart = distinct_more same k r.apart new }

    -- where the next value has a flag, which says whether the next place is like one before
    module _ (small : f k < n) (alike : (i : ℕ) → i < k → same k i ≡ eqb (f k) (f i)) where
      flag : get_or F (f k) false ≡ taken f k (f k)
      flag = rw r.flags (get_d_tabulate n (taken f k) false (f k) small)

      pub next_read : Good k → get_or F (f k) false ≡ false → Read (k + 1) (set F (f k) true)
      unfolding taken
      next_read good e = record {
        flags = next-taken f n k F small r.flags;
        good = good_more good;
        apart = distinct_more same k r.apart (λ j l. refuted (same k j) (λ q.
            contradiction (sym (any_found k (λ i. eqb (f i) (f k)) j l (eq-eqb (f j) (f k) (sym (eqb-true (f k) (f j) (sym (alike j l) ∙ q)))))) (sym flag ∙ e)));
      }

      pub read_twice : (m : ℕ) → k < m → get_or F (f k) false ≡ true → distinct m same ≡ false
      unfolding taken
      read_twice m h e =
          let o = count-found k (λ i. eqb (f i) (f k)) (ltb-true 0 (count k (λ i. eqb (f i) (f k))) (sym flag ∙ e)) in
          let j = o.which in
          refuted (distinct m same) (λ a.
          contradiction (alike j o.below ∙ eq-eqb (f k) (f j) (sym (eqb-true (f j) (f k) o.passes))) (distinct-at m same a k j h o.below))

-- Laws of lists built from a function of the index or stored over another list. Assumes nothing.
use mathlib.Core.Path.{◌≡◌, refl, ap, sym, ◌∙◌}
use mathlib.Core.List.{List}
use Prim.Native.Nat.{ℕ, suc, zero, ◌+◌, ◌≤◌, ◌<◌}
use native.Mathlib.Nat.{add-zero, zero-add, le_of_suc-le-suc, not-suc-le-zero}
use native.Mathlib.Decide.{dec_lt}
use native.Mathlib.Numerals.{add-one}
use native.Mathlib.Omega.{arith}
use lib.ListN.{length, get_or, set, drop, length-set, length-append, length-drop}
use lib.Seq.{get_or-set_same, get_or-set_other, ext_get_or}
use Rattle.lists.specs.Build.{tabulate_from, tabulate, over, overlay}
use Rattle.lists.proofs.Tests.{below_suc}

module _ {ℓ} {A : Type ℓ} where
  -- TABULATE

  pub length-tabulate_from : (i n : ℕ) (f : ℕ → A) → length (tabulate_from i n f) ≡ n
  unfolding tabulate_from
  length-tabulate_from i zero f = refl
  length-tabulate_from i (suc n) f = ap suc (length-tabulate_from (suc i) n f)

  pub get_d_tabulate_from : (i n : ℕ) (f : ℕ → A) (d : A) (k : ℕ) → k < n → get_or (tabulate_from i n f) k d ≡ f (i + k)
  unfolding tabulate_from
  get_d_tabulate_from i zero f d k h = absurd (not-suc-le-zero h)
  get_d_tabulate_from i (suc n) f d zero h = rw add-zero
  get_d_tabulate_from i (suc n) f d (suc k) h = get_d_tabulate_from (suc i) n f d k (le_of_suc-le-suc h) ∙ ap f (omega arith)

  pub length-tabulate : (n : ℕ) (f : ℕ → A) → length (tabulate n f) ≡ n
  unfolding tabulate
  length-tabulate n f = length-tabulate_from 0 n f

  pub get_d_tabulate : (n : ℕ) (f : ℕ → A) (d : A) (k : ℕ) → k < n → get_or (tabulate n f) k d ≡ f k
  unfolding tabulate
  get_d_tabulate n f d k h = get_d_tabulate_from 0 n f d k h ∙ ap f (zero-add k)

  -- the list of its own elements
  pub tabulate_self : (s : List A) (d : A) (n : ℕ) (f : ℕ → A) → length s ≡ n → ((k : ℕ) → k < n → f k ≡ get_or s k d) → tabulate n f ≡ s
  tabulate_self s d n f l e =
      ext_get_or d _ s (length-tabulate n f ∙ sym l)
      (λ i h. let b : i < n = omega (arith, length-tabulate n f) in get_d_tabulate n f d i b ∙ e i b)

  pub tabulate_ext : (n : ℕ) (f g : ℕ → A) (d : A) → ((k : ℕ) → k < n → f k ≡ g k) → tabulate n f ≡ tabulate n g
  tabulate_ext n f g d e =
      ext_get_or d _ _ (length-tabulate n f ∙ sym (length-tabulate n g))
      (λ i h. let b : i < n = omega (arith, length-tabulate n f) in get_d_tabulate n f d i b ∙ e i b ∙ sym (get_d_tabulate n g d i b))

  -- OVER: stored one by one, as a loop does

  pub over_none : (f : ℕ → A) (s : List A) → over f 0 s ≡ s
  unfolding over
  over_none f s = refl

  pub over_more : (f : ℕ → A) (k : ℕ) (s t : List A) (x : A) → t ≡ over f k s → x ≡ f k → set t k x ≡ over f (k + 1) s
  unfolding over
  over_more f k s t x e h = rw (add-one, e, h)

  pub over_end : (f : ℕ → A) (k n : ℕ) (s t : List A) → k ≡ n → t ≡ over f k s → t ≡ over f n s
  over_end f k n s t h e = rw (← h) e

  pub length_over : (f : ℕ → A) (n : ℕ) (s : List A) → length (over f n s) ≡ length s
  unfolding over
  length_over f zero s = refl
  length_over f (suc n) s = length-set (over f n s) n (f n) ∙ length_over f n s

  pub get_d_over : (f : ℕ → A) (n : ℕ) (s : List A) (i : ℕ) (d : A) → i < n → n ≤ length s → get_or (over f n s) i d ≡ f i
  unfolding over
  get_d_over f zero s i d h l = absurd (not-suc-le-zero h)
  get_d_over f (suc n) s i d h l =
      below_suc (λ j. get_or (set (over f n s) n (f n)) j d ≡ f j) n
      (get_or-set_same (over f n s) n (f n) d (omega (arith, length_over f n s)))
      (λ j q. get_or-set_other (over f n s) n j (f n) d (omega arith) ∙ get_d_over f n s j d q (omega arith)) i h

  pub get_d_over_past : (f : ℕ → A) (n : ℕ) (s : List A) (i : ℕ) (d : A) → n ≤ i → get_or (over f n s) i d ≡ get_or s i d
  unfolding over
  get_d_over_past f zero s i d h = refl
  get_d_over_past f (suc n) s i d h = get_or-set_other (over f n s) n i (f n) d (omega arith) ∙ get_d_over_past f n s i d (omega arith)

  -- a list of n places, all stored
  pub over-tabulate : (f : ℕ → A) (n : ℕ) (s : List A) (d : A) → length s ≡ n → over f n s ≡ tabulate n f
  over-tabulate f n s d e =
      ext_get_or d _ _ (length_over f n s ∙ e ∙ sym (length-tabulate n f))
      (λ i h. let l : i < n = omega (arith, length_over f n s) in get_d_over f n s i d l (omega arith) ∙ sym (get_d_tabulate n f d i l))

  -- what was stored first is stored over
  pub over-over : (f g : ℕ → A) (n : ℕ) (s : List A) (d : A) → n ≤ length s → over f n (over g n s) ≡ over f n s
  over-over f g n s d l =
      ext_get_or d _ _ (length_over f n _ ∙ length_over g n s ∙ sym (length_over f n s))
      (λ i h. elim (dec_lt i n) [
        | yes p ↦ get_d_over f n _ i d p (omega (arith, length_over g n s)) ∙ sym (get_d_over f n s i d p l)
        | no q ↦
            let p : n ≤ i = omega arith in
            get_d_over_past f n _ i d p ∙ get_d_over_past g n s i d p ∙ sym (get_d_over_past f n s i d p)
      ])

  -- OVERLAY

  pub length-overlay : (x s : List A) → length x ≤ length s → length (overlay x s) ≡ length s
  unfolding overlay
  length-overlay x s h = omega (arith, length-append x (drop (length x) s), length-drop (length x) s)

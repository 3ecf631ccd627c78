-- Lists of names as sets: membership and distinctness in what is put together, sorted, chosen or taken away. Assumes nothing.
use mathlib.Core.Path.{◌≡◌, refl, sym, ap, ap₂, subst, ◌∙◌}
use mathlib.Core.Bool.{Bool, true, false, not, ◌&&◌, ◌||◌, cond, or_assoc}
use mathlib.Core.Logic.{inl, inr}
use mathlib.Core.List.{List, [], ◌∷◌, ◌++◌, append-nil, append_assoc, flatten}
use Prim.Native.Nat.{ℕ, zero, suc, ◌<◌}
use native.Mathlib.Omega.{arith}
use lib.ListN.{take, drop, take-append-drop}
use lib.Dec.{eqb, ltb}
use borrow.Author.Tests.{eqb-true, eq-eqb, ltb-true, lt-ltb}
use Rattle.lists.specs.Below.{count}
use Rattle.lists.specs.Build.{tabulate_from, tabulate}
use Rattle.lists.proofs.Below.{Found, count-found, count_pos}
use Rattle.lists.proofs.Grow.{tabulate-suc, some_last}
use Rattle.lists.proofs.Tests.{and_left, and_right, both, bool_eq, contradiction, cond_case, or_cases, or-false, or_left, or_right}
use Rattle.model.specs.Events.{earlier, insert}
use Rattle.model.specs.declared.Name.{Name}
use Rattle.consistency.specs.Entries.{name, same, has, Distinct, own_of, less}

-- THE SAME NAME

pub same_true : (a b : Name) → same a b ≡ true → a ≡ b
unfolding same
same_true a b e =
    ap₂ (λ (c k : ℕ). name c k) (eqb-true a.sender b.sender (and_left _ _ e))
    (eqb-true a.number.0 b.number.0 (and_right (eqb a.sender b.sender) _ e))

pub same_self : (a : Name) → same a a ≡ true
unfolding same
same_self a = both (eq-eqb a.sender a.sender refl) (eq-eqb a.number.0 a.number.0 refl)

pub same_sym : (a b : Name) → same a b ≡ same b a
same_sym a b = bool_eq _ _ (λ e. rw (same_true a b e) (same_self b)) (λ e. rw (same_true b a e) (same_self a))

-- MEMBERS

or_swap : (a b c : Bool) → (a || (b || c)) ≡ (b || (a || c))
or_swap true true c = refl
or_swap true false c = refl
or_swap false b c = refl

pub has-append : (m : Name) (xs ys : List Name) → has m (xs ++ ys) ≡ (has m xs || has m ys)
unfolding has
has-append m [] ys = refl
has-append m (x ∷ xs) ys = rw (has-append m xs ys, or_assoc (same m x) (has m xs) (has m ys))

pub flatten_last : (ss : List (List Name)) (s : List Name) → flatten (ss ++ (s ∷ [])) ≡ flatten ss ++ s
unfolding flatten
flatten_last [] s = append-nil s
flatten_last (x ∷ ss) s = rw (flatten_last ss s, append_assoc)

pub has-insert : (m x : Name) (xs : List Name) → has m (insert x xs) ≡ (same m x || has m xs)
unfolding has insert
has-insert m x [] = refl
has-insert m x (y ∷ ys) = go (earlier x y) (has-insert m x ys)
  where
    go : (b : Bool) → has m (insert x ys) ≡ (same m x || has m ys) → has m (cond b (x ∷ y ∷ ys) (y ∷ insert x ys)) ≡ (same m x || (same m y || has m ys))
    go true e = refl
    go false e = rw e (or_swap (same m y) (same m x) (has m ys))

-- one name more of which a test chooses: it stays out, or goes in
stays_out : (s h k r : Bool) → r ≡ (h && k) → (s ≡ true → k ≡ false) → r ≡ ((s || h) && k)
stays_out true true k r e f = e
stays_out true false k r e f = e ∙ sym (f refl)
stays_out false h k r e f = e

goes_in : (s h k r : Bool) → r ≡ (h && k) → (s ≡ true → k ≡ true) → (s || r) ≡ ((s || h) && k)
goes_in true h k r e f = sym (f refl)
goes_in false h k r e f = e

pub has-less : (m : Name) (xs ys : List Name) → has m (less xs ys) ≡ (has m xs && not (has m ys))
unfolding has less
has-less m [] ys = refl
has-less m (x ∷ xs) ys = go (has x ys) refl (has-less m xs ys)
  where
    go : (b : Bool) → has x ys ≡ b → has m (less xs ys) ≡ (has m xs && not (has m ys))
        → has m (cond b (less xs ys) (x ∷ less xs ys)) ≡ ((same m x || has m xs) && not (has m ys))
    go true e r = stays_out (same m x) (has m xs) _ _ r (λ q. rw (same_true m x q, e))
    go false e r = goes_in (same m x) (has m xs) _ _ r (λ q. rw (same_true m x q, e))

pub has_own : (m : Name) (c : ℕ) (ms : List Name) → has m (own_of c ms) ≡ (has m ms && eqb m.sender c)
unfolding has own_of
has_own m c [] = refl
has_own m c (x ∷ ms) = go (eqb x.sender c) refl (has_own m c ms)
  where
    go : (b : Bool) → eqb x.sender c ≡ b → has m (own_of c ms) ≡ (has m ms && eqb m.sender c)
        → has m (cond b (x ∷ own_of c ms) (own_of c ms)) ≡ ((same m x || has m ms) && eqb m.sender c)
    go true e r = goes_in (same m x) (has m ms) _ _ r (λ q. rw (same_true m x q) e)
    go false e r = stays_out (same m x) (has m ms) _ _ r (λ q. rw (same_true m x q) e)

-- DISTINCT NAMES

abbrev pub Apart : List Name → List Name → Type 0
Apart xs ys = (m : Name) → has m xs ≡ true → has m ys ≡ false

pub distinct_append : (xs ys : List Name) → Distinct xs → Distinct ys → Apart xs ys → Distinct (xs ++ ys)
unfolding has Distinct
distinct_append [] ys dx dy a = dy
distinct_append (x ∷ xs) ys dx dy a = (
  has-append x xs ys ∙ rw dx.0 (a x (or_left (has x xs) (same_self x))),
  distinct_append xs ys dx.1 dy (λ m h. a m (or_right (same m x) h)),
)

pub apart_of : (xs ys : List Name) → Distinct (xs ++ ys) → Apart xs ys
unfolding has Distinct
apart_of [] ys d m h = contradiction h refl
apart_of (x ∷ xs) ys d m h = elim (or_cases (same m x) (has m xs) h) [
  | inl q ↦ rw (same_true m x q) (or-false (has x xs) (has x ys) (sym (has-append x xs ys) ∙ d.0)).1
  | inr q ↦ apart_of xs ys d.1 m q
]

pub distinct-insert : (x : Name) (xs : List Name) → has x xs ≡ false → Distinct xs → Distinct (insert x xs)
unfolding has Distinct insert
distinct-insert x [] e d = (refl, tt)
distinct-insert x (y ∷ ys) e d =
    let q = or-false (same x y) (has x ys) e in
    cond_case Distinct (earlier x y) (x ∷ y ∷ ys) (y ∷ insert x ys) (λ _. (e, d))
    (λ _. (has-insert y x ys ∙ rw (same_sym y x, q.0) d.0, distinct-insert x ys q.1 d.1))

pub distinct-less : (xs ys : List Name) → Distinct xs → Distinct (less xs ys)
unfolding has Distinct less
distinct-less [] ys d = tt
distinct-less (x ∷ xs) ys d =
    cond_case Distinct (has x ys) (less xs ys) (x ∷ less xs ys) (λ _. distinct-less xs ys d.1)
    (λ _. (has-less x xs ys ∙ rw d.0, distinct-less xs ys d.1))

-- what comes after the first k is the rest
pub has-drop : (m : Name) (k : ℕ) (xs : List Name) → Distinct xs → has m (drop k xs) ≡ (has m xs && not (has m (take k xs)))
has-drop m k xs d =
    let e : has m xs ≡ (has m (take k xs) || has m (drop k xs)) = ap (has m) (sym (take-append-drop k xs)) ∙ has-append m (take k xs) (drop k xs) in
    rw e (go (has m (take k xs)) (has m (drop k xs)) (apart_of (take k xs) (drop k xs) (rw (take-append-drop k xs) d) m))
  where
    go : (a b : Bool) → (a ≡ true → b ≡ false) → b ≡ ((a || b) && not a)
    go true b f = f refl
    go false true f = refl
    go false false f = refl

-- BY INDEX

-- a test of lists that asks whether some element passes
module _ {A : Type 0} (any : List A → Bool) (p : A → Bool) (none : any [] ≡ false) (more : (x : A) (xs : List A) → any (x ∷ xs) ≡ (p x || any xs)) where
  any_last : (xs : List A) (y : A) → any (xs ++ (y ∷ [])) ≡ (p y || any xs)
  any_last [] y = more y []
  any_last (x ∷ xs) y = more x (xs ++ (y ∷ [])) ∙ rw (any_last xs y, more x xs) (or_swap (p x) (p y) (any xs))

  pub any_tabulate : (f : ℕ → A) (n : ℕ) → any (tabulate n f) ≡ ltb 0 (count n (λ i. p (f i)))
  unfolding tabulate tabulate_from count
  any_tabulate f zero = none
  any_tabulate f (suc n) =
      ap any (tabulate-suc f n) ∙ any_last (tabulate n f) (f n) ∙ ap (λ b. p (f n) || b) (any_tabulate f n) ∙ sym (some_last n (λ i. p (f i)))

module _ (f : ℕ → Name) where
  pub has-tabulate : (m : Name) (n : ℕ) → has m (tabulate n f) ≡ ltb 0 (count n (λ i. same m (f i)))
  unfolding has
  has-tabulate m n = any_tabulate (has m) (same m) refl (λ _ _. refl) f n

  pub has-tabulate-at : (m : Name) (n : ℕ) → has m (tabulate n f) ≡ true → Found n (λ i. same m (f i))
  has-tabulate-at m n e = count-found n (λ i. same m (f i)) (ltb-true 0 _ (sym (has-tabulate m n) ∙ e))

  pub has-tabulate_of : (m : Name) (n i : ℕ) → i < n → f i ≡ m → has m (tabulate n f) ≡ true
  has-tabulate_of m n i h e = has-tabulate m n ∙ lt-ltb 0 _ (count_pos n (λ i. same m (f i)) i h (rw e (same_self m)))

  pub distinct-tabulate : (n : ℕ) → ((i j : ℕ) → i < n → j < i → same (f i) (f j) ≡ false) → Distinct (tabulate n f)
  unfolding has Distinct tabulate tabulate_from
  distinct-tabulate zero d = tt
  distinct-tabulate (suc n) d =
      subst Distinct (sym (tabulate-suc f n))
      (distinct_append (tabulate n f) (f n ∷ []) (distinct-tabulate n (λ i j h l. d i j (omega arith) l)) (refl, tt)
      (λ m h. new m (has-tabulate-at m n h)))
    where
      new : (m : Name) → Found n (λ i. same m (f i)) → (same m (f n) || false) ≡ false
      new m o = rw (same_true m (f o.which) o.passes, same_sym (f o.which) (f n), d n o.which (omega arith) o.below)

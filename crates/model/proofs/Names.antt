-- Laws of lists of names: membership and distinctness in what is put together. Assumes nothing.
use mathlib.Core.Path.{◌≡◌, refl, sym, ap₂, ◌∙◌}
use mathlib.Core.Bool.{true, false, ◌||◌, or_assoc}
use mathlib.Core.Logic.{inl, inr}
use mathlib.Core.List.{List, [], ◌∷◌, ◌++◌, append-nil, append_assoc, flatten}
use Prim.Native.Nat.{ℕ}
use lib.Dec.{eqb}
use borrow.Author.Tests.{eqb-true, eq-eqb}
use Rattle.lists.proofs.Tests.{and_left, and_right, both, bool_eq, contradiction, or_cases, or-false, or_left, or_right}
use Rattle.model.specs.Names.{name, same, has, twice}
use Rattle.model.specs.declared.Name.{Name}

-- THE SAME NAME

pub same_true : (a b : Name) → same a b ≡ true → a ≡ b
unfolding same
same_true a b e =
    ap₂ (λ (c k : ℕ). name c k) (eqb-true a.sender b.sender (and_left _ _ e))
    (eqb-true a.number.0 b.number.0 (and_right (eqb a.sender b.sender) _ e))

pub same_self : (a : Name) → same a a ≡ true
unfolding same
same_self a = both (eq-eqb a.sender a.sender refl) (eq-eqb a.number.0 a.number.0 refl)

pub same_sym : (a b : Name) → same a b ≡ same b a
same_sym a b = bool_eq _ _ (λ e. rw (same_true a b e) (same_self b)) (λ e. rw (same_true b a e) (same_self a))

-- MEMBERS

pub has-append : (m : Name) (xs ys : List Name) → has m (xs ++ ys) ≡ (has m xs || has m ys)
unfolding has
has-append m [] ys = refl
has-append m (x ∷ xs) ys = rw (has-append m xs ys, or_assoc (same m x) (has m xs) (has m ys))

pub flatten_last : (ss : List (List Name)) (s : List Name) → flatten (ss ++ (s ∷ [])) ≡ flatten ss ++ s
unfolding flatten
flatten_last [] s = append-nil s
flatten_last (x ∷ ss) s = rw (flatten_last ss s, append_assoc)

-- DISTINCT NAMES

abbrev pub Apart : List Name → List Name → Type 0
Apart xs ys = (m : Name) → has m xs ≡ true → has m ys ≡ false

pub once_append : (xs ys : List Name) → twice xs ≡ false → twice ys ≡ false → Apart xs ys → twice (xs ++ ys) ≡ false
unfolding has twice
once_append [] ys dx dy a = dy
once_append (x ∷ xs) ys dx dy a =
    let d = or-false (has x xs) (twice xs) dx in
    rw (has-append x xs ys, d.0, a x (or_left (has x xs) (same_self x))) (once_append xs ys d.1 dy (λ m h. a m (or_right (same m x) h)))

pub apart_of : (xs ys : List Name) → twice (xs ++ ys) ≡ false → Apart xs ys
unfolding has twice
apart_of [] ys d m h = contradiction h refl
apart_of (x ∷ xs) ys d m h =
    let f = or-false (has x (xs ++ ys)) (twice (xs ++ ys)) d in
    elim (or_cases (same m x) (has m xs) h) [
      | inl q ↦ rw (same_true m x q) (or-false (has x xs) (has x ys) (sym (has-append x xs ys) ∙ f.0)).1
      | inr q ↦ apart_of xs ys f.1 m q
    ]

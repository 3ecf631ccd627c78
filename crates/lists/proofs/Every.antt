-- Laws of what holds of every element of a list, and of what passes at every element. Assumes nothing.
use Prim.Native.Nat.{ℕ, zero, suc, ◌<◌}
use native.Mathlib.Omega.{arith}
use mathlib.Core.Path.{◌≡◌, refl}
use mathlib.Core.Bool.{Bool, true, false, ◌&&◌, and_assoc}
use mathlib.Core.List.{List, [], ◌∷◌, ◌++◌, map}
use lib.ListN.{length, get_or, take}
use Rattle.lists.proofs.Tests.{and_left, and_right, both, contradiction}
use Rattle.lists.specs.Every.{Every, every}

pub every_append : {A : Type 0} (P : A → Type 0) (xs ys : List A) → Every P xs → Every P ys → Every P (xs ++ ys)
unfolding Every
every_append P [] ys h k = k
every_append P (x ∷ xs) ys h k = (h.0, every_append P xs ys h.1 k)

pub every_weaker : {A : Type 0} (P Q : A → Type 0) → ((x : A) → P x → Q x) → (xs : List A) → Every P xs → Every Q xs
unfolding Every
every_weaker P Q f [] h = h
every_weaker P Q f (x ∷ xs) h = (f x h.0, every_weaker P Q f xs h.1)

pub every_take : {A : Type 0} (P : A → Type 0) (k : ℕ) (xs : List A) → Every P xs → Every P (take k xs)
unfolding Every
every_take P zero xs h = tt
every_take P (suc k) [] h = tt
every_take P (suc k) (x ∷ xs) h = (h.0, every_take P k xs h.1)

pub tests_append : {A : Type 0} (p : A → Bool) (xs ys : List A) → every p (xs ++ ys) ≡ (every p xs && every p ys)
unfolding every
tests_append p [] ys = refl
tests_append p (x ∷ xs) ys = rw (tests_append p xs ys, and_assoc (p x) (every p xs) (every p ys))

pub every-parts : {A : Type 0} (P : A → Type 0) (xs ys : List A) → Every P (xs ++ ys) → Every P xs × Every P ys
unfolding Every
every-parts P [] ys h = (tt, h)
every-parts P (x ∷ xs) ys h = let q = every-parts P xs ys h.1 in ((h.0, q.0), q.1)

pub every_map : {A B : Type 0} (P : B → Type 0) (f : A → B) (xs : List A) → Every (λ x. P (f x)) xs → Every P (map f xs)
unfolding Every
every_map P f [] h = h
every_map P f (x ∷ xs) h = (h.0, every_map P f xs h.1)

pub every_test : {A : Type 0} (p : A → Bool) (xs : List A) → Every (λ x. p x ≡ true) xs → every p xs ≡ true
unfolding Every every
every_test p [] h = refl
every_test p (x ∷ xs) h = both h.0 (every_test p xs h.1)

pub every_ext : {A : Type 0} (P : A → Type 0) (p q : A → Bool) (xs : List A) → Every P xs → ((x : A) → P x → p x ≡ q x) → every p xs ≡ every q xs
unfolding Every every
every_ext P p q [] h e = refl
every_ext P p q (x ∷ xs) h e = rw (e x h.0, every_ext P p q xs h.1 e)

pub every_both : {A : Type 0} (p q : A → Bool) (xs : List A) → every (λ x. p x && q x) xs ≡ (every p xs && every q xs)
unfolding every
every_both p q [] = refl
every_both p q (x ∷ xs) = rw (every_both p q xs) (go (p x) (q x) (every p xs) (every q xs))
  where
    go : (a b c d : Bool) → ((a && b) && (c && d)) ≡ ((a && c) && (b && d))
    go true true c d = refl
    go true false true d = refl
    go true false false d = refl
    go false b c d = refl

-- BY INDEX

-- an element that a test does not pass
pub record Failing {A : Type 0} (f : A → Bool) (xs : List A) (d : A) : Type 0 where
  pub at : ℕ
  pub there : at < length xs
  pub fails : f (get_or xs at d) ≡ false

pub some_fails : {A : Type 0} (f : A → Bool) (xs : List A) (d : A) → every f xs ≡ false → Failing f xs d
unfolding every
some_fails f [] d e = contradiction refl e
some_fails f (x ∷ xs) d e = go (f x) refl e (some_fails f xs d)
  where
    go : (b : Bool) → f x ≡ b → (b && every f xs) ≡ false → (every f xs ≡ false → Failing f xs d) → Failing f (x ∷ xs) d
    go true q h more = let r = more h in record { at = suc r.at; there = omega (arith, r.there); fails = r.fails }
    go false q h more = record { at = 0; there = omega arith; fails = q }

pub every-at : {A : Type 0} (f : A → Bool) (xs : List A) (d : A) → every f xs ≡ true → (i : ℕ) → i < length xs → f (get_or xs i d) ≡ true
unfolding every
every-at f [] d e i h = absurd (omega arith)
every-at f (x ∷ xs) d e zero h = and_left (f x) (every f xs) e
every-at f (x ∷ xs) d e (suc i) h = every-at f xs d (and_right (f x) (every f xs) e) i (omega arith)

-- Codes of names: each is below their count, and names within their ranges have one of their own. Assumes nothing.
use Prim.Native.Nat.{ℕ, ◌+◌, ◌*◌, ◌≤◌, ◌<◌, min}
use mathlib.Core.Path.{◌≡◌, ap₂}
use mathlib.Core.Bool.{true, ◌&&◌}
use mathlib.Core.List.{List, [], ◌∷◌, map, flatten}
use native.Mathlib.Omega.{arith}
use lib.ListN.{length}
use lib.Dec.{eqb, ltb}
use borrow.Author.Tests.{leb-true, eqb-true, eq-eqb}
use Rattle.lists.specs.Every.{Every, every}
use Rattle.lists.proofs.Every.{every_append}
use Rattle.lists.proofs.Tests.{and_left, and_right, both, bool_eq}
use Rattle.model.specs.Tables.{seats, capacity}
use Rattle.model.specs.Names.{same}
use Rattle.model.specs.Fair.{named}
use Rattle.model.specs.Books.{parts, whole, names, book_in, good_names, good_set, good_book}
use Rattle.model.specs.declared.Name.{Name}
use Rattle.histories.proofs.Files.{InRange}
use Rattle.books.specs.Ranks.{code_count, code_of}

pub code_below : (m : Name) → code_of m < code_count
unfolding code_of
code_below m = omega arith

sender_few : (m : Name) → InRange m → m.sender ≤ seats
unfolding named
sender_few m h = leb-true m.sender seats (and_right (ltb 0 m.sender) _ (and_left (named seats m.sender) _ h))

number_few : (m : Name) → InRange m → m.number.0 ≤ capacity
unfolding named
number_few m h = leb-true m.number.0 capacity (and_right (ltb 0 m.number.0) _ (and_right (named seats m.sender) _ h))

pub same_code : (a b : Name) → InRange a → InRange b → same a b ≡ eqb (code_of a) (code_of b)
unfolding same code_of
same_code a b ha hb =
    bool_eq (same a b) (eqb (code_of a) (code_of b))
    (λ e.
    let s = eqb-true a.sender b.sender (and_left _ _ e) in
    let k = eqb-true a.number.0 b.number.0 (and_right (eqb a.sender b.sender) _ e) in
    eq-eqb (code_of a) (code_of b) (ap₂ (λ x y. min x seats * (capacity + 1) + min y capacity) s k))
    (λ e.
    let q = eqb-true (code_of a) (code_of b) e in
    both (eq-eqb a.sender b.sender (omega (arith, q, sender_few a ha, number_few a ha, sender_few b hb, number_few b hb)))
    (eq-eqb a.number.0 b.number.0 (omega (arith, q, sender_few a ha, number_few a ha, sender_few b hb, number_few b hb))))

-- the names of good bytes are in their ranges
pub names_in_range : (s : List ℕ) → good_names s ≡ true → Every InRange (names s)
unfolding names good_names Every
names_in_range [] e = tt
names_in_range (c ∷ []) e = tt
names_in_range (c ∷ k ∷ s) e =
    let n = named seats c && named capacity k in
    (and_left n _ e, names_in_range s (and_right n _ e))

sets_in_range : (ss : List (List ℕ)) → every good_set ss ≡ true → Every InRange (flatten (map names ss))
unfolding every Every flatten
sets_in_range [] e = tt
sets_in_range (s ∷ ss) e =
    let good = and_right (ltb 0 (length s)) _ (and_left (good_set s) _ e) in
    every_append InRange (names s) (flatten (map names ss)) (names_in_range s good) (sets_in_range ss (and_right (good_set s) _ e))

pub book_in_range : (s : List ℕ) → good_book s ≡ true → Every InRange (flatten (book_in s))
unfolding good_book
book_in_range s e = sets_in_range (parts 1 0 s) (and_right (whole 1 0 s) _ e)

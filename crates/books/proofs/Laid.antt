-- What the bytes left over, after the first part, say of the layout. Assumes nothing.
use Prim.Native.Nat.{ℕ, zero, suc, ◌+◌, ◌-◌, ◌%◌, ◌≤◌, ◌<◌}
use mathlib.Core.Path.{◌≡◌, refl, sym, ap, ap₂, ◌∙◌}
use mathlib.Core.Bool.{Bool, true, false, ◌&&◌, and-false}
use mathlib.Core.List.{List, [], ◌∷◌}
use native.Mathlib.Omega.{arith}
use lib.ListN.{length, length-map}
use lib.Dec.{ltb, leb}
use borrow.Author.Tests.{lt-ltb, le-leb, lt-leb}
use Rattle.lists.specs.Every.{every}
use Rattle.lists.proofs.Tests.{and_left, and_right, contradiction}
use Rattle.model.specs.Tables.{seats, capacity}
use Rattle.model.specs.Fair.{named}
use Rattle.model.specs.Questions.{longest_file}
use Rattle.model.specs.Books.{size_in, parts, whole, names, book_in, books_in, good_names, good_set, good_book, good_panels}
use Rattle.model.specs.declared.Name.{Name}
use Rattle.books.specs.Layout.{LaidSets, LaidBooks, FirstPart}

-- MESSAGES

abbrev pub good_name : Name → Bool
good_name m = named seats m.sender && named capacity m.number.0

pub even-names : (s : List ℕ) → length s % 2 ≡ 0 → every good_name (names s) ≡ good_names s
unfolding every names good_names
even-names [] e = refl
even-names (c ∷ []) e = absurd (omega (arith, e))
even-names (c ∷ k ∷ s) e = ap (λ (b : Bool). (named seats c && named capacity k) && b) (even-names s (omega (arith, e)))

pub odd-names : (s : List ℕ) → (length s % 2 ≡ 0 → ⊥) → good_names s ≡ false
unfolding good_names
odd-names [] f = absurd (f refl)
odd-names (c ∷ []) f = refl
odd-names (c ∷ k ∷ s) f = ap (λ (b : Bool). (named seats c && named capacity k) && b) (odd-names s (λ e. f (omega (arith, e)))) ∙ and-false (named seats c && named capacity k)

-- PARTS

-- no more parts than bytes
pub parts_few : (w k : ℕ) (s : List ℕ) → length (parts w k s) ≤ length s
unfolding parts
parts_few w k [] = omega arith
parts_few w zero (b ∷ s) = omega (arith, parts_few w (w - 1 + size_in w (b ∷ s)) s)
parts_few w (suc k) (b ∷ s) = omega (arith, parts_few w k s)

-- where no part begins, though each is there whole, nothing is left
nothing : (w : ℕ) (s : List ℕ) → whole w 0 s ≡ true → (0 < length s → whole w 0 s ≡ false) → s ≡ []
nothing w [] e f = refl
nothing w (b ∷ s) e f = contradiction e (f (omega arith))

and_swap : (a b c : Bool) → (a && (b && c)) ≡ (b && (a && c))
and_swap true b c = refl
and_swap false true c = refl
and_swap false false c = refl

-- all bytes are there, and each part passes
abbrev pub Pass : ℕ → (List ℕ → Bool) → List ℕ → Bool
Pass w p s = whole w 0 s && every p (parts w 0 s)

pass_end : (w : ℕ) (p : List ℕ → Bool) → Pass w p [] ≡ true
unfolding whole parts every
pass_end w p = refl

module _ (w : ℕ) (p : List ℕ → Bool) (s part rest : List ℕ) (first : FirstPart w s part rest) where
  pass_turn : Pass w p s ≡ (p part && Pass w p rest)
  unfolding every
  pass_turn =
      ap₂ (λ (a : Bool) (b : List (List ℕ)). a && every p b) first.there first.turn
      ∙ and_swap (whole w 0 rest) (p part) (every p (parts w 0 rest))

-- SETS

pub sets_end : (s : List ℕ) → LaidSets s → (0 < length s → whole 1 0 s ≡ false) → book_in s ≡ []
unfolding parts
sets_end s laid f = ap (λ (x : List ℕ). book_in x) (nothing 1 s laid.sets f)

module _ (s set rest : List ℕ) (first : FirstPart 1 s set rest) where
  good_turn_lem : good_book s ≡ (good_set set && good_book rest)
  unfolding good_book
  good_turn_lem = pass_turn 1 good_set s set rest first

  pub set_bad : good_set set ≡ false → good_book s ≡ false
  set_bad e = good_turn_lem ∙ ap (λ (b : Bool). b && good_book rest) e

  pub set_good : good_set set ≡ true → good_book s ≡ good_book rest
  set_good e = good_turn_lem ∙ ap (λ (b : Bool). b && good_book rest) e

pub good_none : (s : List ℕ) → length s ≡ 0 → good_book s ≡ true
unfolding good_book
good_none [] e = pass_end 1 good_set
good_none (b ∷ s) e = absurd (omega (arith, e))

pub good_short : (s : List ℕ) → (0 < length s → whole 1 0 s ≡ false) → 0 < length s → good_book s ≡ false
unfolding good_book
good_short s f h = ap (λ (b : Bool). b && every good_set (parts 1 0 s)) (f h)

pub good_laid : (s : List ℕ) → good_book s ≡ true → length s ≤ longest_file → LaidSets s
unfolding good_book
good_laid s e h = record { sets = and_left (whole 1 0 s) _ e; short = h }

pub sets_few : (s : List ℕ) → length (book_in s) ≤ length s
sets_few s = omega (arith, parts_few 1 0 s, length-map (parts 1 0 s) names)

-- BOOKS

pub books_few : (s : List ℕ) → length (books_in s) ≤ length s
books_few s = omega (arith, parts_few 2 0 s, length-map (parts 2 0 s) book_in)

pub books_end : (s : List ℕ) → LaidBooks s → (0 < length s → whole 2 0 s ≡ false) → books_in s ≡ []
unfolding parts
books_end s laid f = ap (λ (x : List ℕ). books_in x) (nothing 2 s laid.books f)

module _ (s book rest : List ℕ) (first : FirstPart 2 s book rest) where
  all_good : LaidBooks s → (good_book book && every good_book (parts 2 0 rest)) ≡ true
  unfolding every
  all_good laid = ap (every good_book) (sym first.turn) ∙ laid.good

  pub books_laid : LaidBooks s → LaidBooks rest
  books_laid laid = record {
    books = sym first.there ∙ laid.books;
    good = and_right (good_book book) _ (all_good laid);
    short = omega (arith, first.long, laid.short);
  }

  pub book_laid : LaidBooks s → LaidSets book
  book_laid laid = good_laid book (and_left (good_book book) _ (all_good laid)) (omega (arith, first.long, laid.short))

  pub book_bad : good_book book ≡ false → Pass 2 good_book s ≡ false
  book_bad e = pass_turn 2 good_book s book rest first ∙ ap (λ (b : Bool). b && Pass 2 good_book rest) e

  pub book_good : good_book book ≡ true → Pass 2 good_book s ≡ Pass 2 good_book rest
  book_good e = pass_turn 2 good_book s book rest first ∙ ap (λ (b : Bool). b && Pass 2 good_book rest) e

pub pass_none : (s : List ℕ) → length s ≡ 0 → Pass 2 good_book s ≡ true
pass_none [] e = pass_end 2 good_book
pass_none (b ∷ s) e = absurd (omega (arith, e))

pub pass_short : (s : List ℕ) → (0 < length s → whole 2 0 s ≡ false) → 0 < length s → Pass 2 good_book s ≡ false
pass_short s f h = ap (λ (b : Bool). b && every good_book (parts 2 0 s)) (f h)

pub pass_laid : (s : List ℕ) → Pass 2 good_book s ≡ true → length s ≤ longest_file → LaidBooks s
pass_laid s e h = record { books = and_left (whole 2 0 s) _ e; good = and_right (whole 2 0 s) _ e; short = h }

-- their number is that of panels
module _ (s : List ℕ) where
  pub panels_refused : Pass 2 good_book s ≡ false → good_panels s ≡ false
  unfolding good_panels
  panels_refused e = ap (λ (b : Bool). b && named seats (length (parts 2 0 s))) e

  module _ (pass : Pass 2 good_book s ≡ true) (n : ℕ) (count : n ≡ length (books_in s)) where
    panels_counted : good_panels s ≡ (ltb 0 n && leb n seats)
    unfolding good_panels named
    panels_counted = rw (pass, count, length-map (parts 2 0 s) book_in) refl

    pub panels_read : 1 ≤ n → n ≤ seats → good_panels s ≡ true
    panels_read h k = panels_counted ∙ rw (lt-ltb 0 n h, le-leb n seats k) refl

    pub panels_none : n ≡ 0 → good_panels s ≡ false
    panels_none e = panels_counted ∙ rw e refl

    pub panels_many : seats < n → good_panels s ≡ false
    panels_many h = panels_counted ∙ rw (lt-leb n seats h) (and-false (ltb 0 n))

-- What `all` answers over messages, sets and books, in the word `every`, and `count` over books. Assumes nothing.
use Prim.Native.Nat.{ℕ}
use mathlib.Core.Path.{◌≡◌, refl, ap, ◌∙◌}
use mathlib.Core.Bool.{Bool, true, false, ◌&&◌}
use mathlib.Core.List.{List, [], ◌∷◌}
use lib.ListN.{length}
use denote.Param.Members.{Mut}
use Rattle.std.specs.Prelude.{Option, MatchOption}
use Rattle.std.specs.Fn.{Called}
use Rattle.std.specs.Iterator.{YieldsFirstBy, YieldsThen, Drains}
use Rattle.std.specs.List.{FoldsTo, list_all}
use Rattle.std.proofs.lemmas.Iterator.Consumers.{YieldsList-from_first, count_from_yields_List}
use Rattle.std.proofs.lemmas.Iterator.Search.{all_from_yields_List}
use Rattle.lists.specs.Every.{every}
use Rattle.model.specs.Books.{Book, names, book_in, books_in}
use Rattle.model.specs.declared.Name.{Name}
use Rattle.books.specs.declared.layout.Names.{Names}
use Rattle.books.specs.declared.layout.Sets.{Sets}
use Rattle.books.specs.declared.layout.Books.{Books}

list_all_is : {A : Type 0} (p : A → Bool) (xs : List A) → list_all p xs ≡ every p xs
unfolding every
list_all_is p [] = refl
list_all_is p (x ∷ xs) = ap (λ (b : Bool). p x && b) (list_all_is p xs)

-- what `all` ensures: it stopped at the first item that fails, with r, if there was one
abbrev pub Ran : {S A F : Type 0} (steps : S → Option A → S → Type 0) (g : Mut F (A × Unit {0}) Bool) (s u : S) (f : F) (r : Bool) → Type 0
Ran {S} {A} {F} steps g s u f r = (xs : List A) × (o : Option A) × (j : F) × YieldsThen steps s xs o u × FoldsTo (λ p x q. Called g p (x, tt) true q) f xs j
    × MatchOption o (r ≡ true) (λ x. (r ≡ false) × ((h : F) × Called g j (x, tt) false h))

-- over an iterator that shows what is left by `rest`, with a closure that works out a test of what `view` reads of its item
module _ {S A B F : Type 0} (view : A → B) (rest : S → List B) (test : B → Bool) {g : Mut F (A × Unit {0}) Bool} where
  every_left : (s u : S) (f : F) (r : Bool) → Ran (YieldsFirstBy view rest) g s u f r
      → ((x : A) (b : Bool) (q : F) → Called g f (x, tt) b q → (q ≡ f) × (b ≡ test (view x))) → r ≡ every test (rest s)
  every_left s u f r ran h = all_from_yields_List test u f r ran (YieldsList-from_first view rest {s = s} (rest s) refl) h ∙ list_all_is test (rest s)

pub every_name : {F : Type 0} {g : Mut F (Name × Unit {0}) Bool} (test : Name → Bool) (s u : Names) (f : F) (r : Bool) → Ran (YieldsFirstBy (λ x. x) (λ (s : Names). names s.bytes.now)) g s u f r
    → ((x : Name) (b : Bool) (q : F) → Called g f (x, tt) b q → (q ≡ f) × (b ≡ test x)) → r ≡ every test (names s.bytes.now)
every_name test = every_left (λ x. x) (λ (s : Names). names s.bytes.now) test

pub every_set : {F : Type 0} {g : Mut F (Names × Unit {0}) Bool} (test : List Name → Bool) (s u : Sets) (f : F) (r : Bool) → Ran (YieldsFirstBy (λ (x : Names). names x.bytes.now) (λ (s : Sets). book_in s.bytes.now)) g s u f r
    → ((x : Names) (b : Bool) (q : F) → Called g f (x, tt) b q → (q ≡ f) × (b ≡ test (names x.bytes.now))) → r ≡ every test (book_in s.bytes.now)
every_set test = every_left (λ (x : Names). names x.bytes.now) (λ (s : Sets). book_in s.bytes.now) test

pub every_book : {F : Type 0} {g : Mut F (Sets × Unit {0}) Bool} (test : Book → Bool) (s u : Books) (f : F) (r : Bool) → Ran (YieldsFirstBy (λ (x : Sets). book_in x.bytes.now) (λ (s : Books). books_in s.bytes.now)) g s u f r
    → ((x : Sets) (b : Bool) (q : F) → Called g f (x, tt) b q → (q ≡ f) × (b ≡ test (book_in x.bytes.now))) → r ≡ every test (books_in s.bytes.now)
every_book test = every_left (λ (x : Sets). book_in x.bytes.now) (λ (s : Books). books_in s.bytes.now) test

pub book_count : (s : Books) (r : ℕ) → (xs : List Sets) × Drains (YieldsFirstBy (λ (x : Sets). book_in x.bytes.now) (λ (s : Books). books_in s.bytes.now)) s xs × (r ≡ length xs) → r ≡ length (books_in s.bytes.now)
book_count s r ran = count_from_yields_List s r ran (YieldsList-from_first (λ (x : Sets). book_in x.bytes.now) (λ (s : Books). books_in s.bytes.now) {s = s} (books_in s.bytes.now) refl)

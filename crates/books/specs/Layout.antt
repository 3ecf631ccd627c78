-- What the functions that read a book file say of its bytes. Not to be believed: proofs/FileQuestions.antt shows that they are the layout
-- of a book file.
use Rattle.std.specs.Prelude.{ℕ, ◌+◌, ◌≤◌, ◌≡◌, Bool, true, ◌&&◌, length, eqb, leb, List, ◌∷◌}
use Rattle.lists.specs.Every.{every}
use Rattle.model.specs.Records.{byte}
use Rattle.model.specs.Books.{parts, whole, good_book, book_version, after_sent}
use Rattle.model.specs.Questions.{longest_file}

-- sets one after the other
pub record LaidSets (s : List ℕ) : Type 0 where
  pub sets : whole 1 0 s ≡ true
  pub short : length s ≤ longest_file

-- books one after the other, each laid out right
pub record LaidBooks (s : List ℕ) : Type 0 where
  pub books : whole 2 0 s ≡ true
  pub good : every good_book (parts 2 0 s) ≡ true
  pub short : length s ≤ longest_file

-- p is the first of the parts of s, each with a length of w bytes before it, and r is the bytes after it
pub record FirstPart (w : ℕ) (s p r : List ℕ) : Type 0 where
  pub turn : parts w 0 s ≡ p ∷ parts w 0 r
  pub there : whole w 0 s ≡ whole w 0 r
  pub long : length s ≡ w + length p + length r

-- the file is not too long, and of this version, and the messages sent are there
unfoldable pub headed : List ℕ → Bool
headed s = (leb (length s) longest_file && eqb (byte s 0) book_version) && leb (after_sent s) (length s)

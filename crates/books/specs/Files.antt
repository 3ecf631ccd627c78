-- What the code reads from a book file. Not to be believed: proofs/FileQuestions.antt shows that its answer is that of the definition.
use Rattle.std.specs.Prelude.{ℕ, ◌≡◌, true, List}
use Rattle.model.specs.Books.{names, books_in, sent_bytes, panel_bytes, laid_out}
use Rattle.books.specs.Ranks.{place_names, unranked}
use Rattle.books.specs.declared.File.{File}

-- f is the parts of a file that is laid out right
pub record IsFile (s : List ℕ) (f : File) : Type 0 where
  pub laid : laid_out s ≡ true
  pub sent : names f.sent.bytes.now ≡ names (sent_bytes s)
  pub ranks : f.ranks.0 ≡ (place_names 0 (names (sent_bytes s)) unranked).ranks
  pub books : books_in f.books.bytes.now ≡ books_in (panel_bytes s)

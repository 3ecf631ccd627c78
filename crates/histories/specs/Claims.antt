-- What the laws of book files are stated with.
use Rattle.std.specs.Prelude.{◌≡◌, true, List, [], ◌∷◌, ℕ, ◌<◌, length, get_or}
use Rattle.lists.specs.Every.{every}
use Rattle.model.specs.Names.{has}
use Rattle.model.specs.Books.{Book, names, sent_bytes, panel_bytes, laid_out, books_in, applied_once, all_sent, earlier}
use Rattle.model.specs.declared.Name.{Name}

-- what the check of a book file answers
pub data BookNumber : ℕ → Type 0 where
  accepted : BookNumber 0
  layout : BookNumber 5
  repeated : BookNumber 22
  not_sent : BookNumber 23
  opposite : BookNumber 24

-- 5, 22 and 23 do not refuse it
pub record Passed (s : List ℕ) : Type 0 where
  pub laid_out : laid_out s ≡ true
  pub once : every applied_once (books_in (panel_bytes s)) ≡ true
  pub sent : every (all_sent (names (sent_bytes s))) (books_in (panel_bytes s)) ≡ true

-- of two panels, each at its place of the list, one has the first of two messages in an earlier set than the second, and the other has the
-- second in an earlier set than the first
pub record Opposite (ps : List Book) : Type 0 where
  pub one : ℕ
  pub other : ℕ
  pub one_there : one < length ps
  pub other_there : other < length ps
  pub first : Name
  pub second : Name
  pub first_earlier : earlier (get_or ps one []) first second ≡ true
  pub second_earlier : earlier (get_or ps other []) second first ≡ true

-- two books with equal sets, whatever the order of the messages within each
unfoldable pub Alike : Book → Book → Type 0
Alike [] [] = Unit {0}
Alike [] (t ∷ q) = ⊥
Alike (s ∷ p) [] = ⊥
Alike (s ∷ p) (t ∷ q) = ((m : Name) → has m s ≡ has m t) × Alike p q

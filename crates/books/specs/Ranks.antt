-- What the functions of this crate work out: codes of names, the ranks that a book gives its messages, and the questions by ranks. Not
-- to be believed: proofs/Ranks.antt shows that they are the questions of a book file.
use Rattle.std.specs.Prelude.{ℕ, ◌+◌, ◌*◌, min, ◌≡◌, Bool, true, false, not, ◌&&◌, cond, get_or, set, replicate, eqb, ltb, Option, Some, None}
use mathlib.Core.List.{List, [], ◌∷◌, flatten}
use Rattle.lists.specs.Every.{every}
use Rattle.model.specs.Tables.{seats, capacity}
use Rattle.model.specs.Books.{Book}
use Rattle.model.specs.Questions.{ask, first_no}
use Rattle.model.specs.declared.Name.{Name}
use Rattle.books.specs.declared.ranking.Ranks.{Ranks}

-- RANKS

-- a name within its ranges has a code of its own
abbrev pub code_count : ℕ
code_count = (seats + 1) * (capacity + 1)

unfoldable pub code_of : Name → ℕ
code_of m = min m.sender seats * (capacity + 1) + min m.number.0 capacity

-- greater than the rank of every set
abbrev pub lacking : ℕ
lacking = 65535

abbrev pub unranked : List ℕ
unranked = replicate code_count lacking

abbrev pub rank_of : List ℕ → Name → ℕ
rank_of R m = get_or R (code_of m) 0

unfoldable pub ranked : List ℕ → Name → Bool
ranked R m = not (eqb (rank_of R m) lacking)

-- whether no name had a rank before, and the ranks afterwards
pub record Placing : Type 0 where
  pub new : Bool
  pub ranks : List ℕ

-- names get the rank k, up to the first that has one
unfoldable pub place_names : ℕ → List Name → List ℕ → Placing
place_names k [] R = record { new = true; ranks = R }
place_names k (m ∷ ms) R = cond (ranked R m) (record { new = false; ranks = R }) (place_names k ms (set R (code_of m) k))

-- sets get the ranks k, k + 1, ..
unfoldable pub place_book : ℕ → Book → List ℕ → Placing
place_book k [] R = record { new = true; ranks = R }
place_book k (s ∷ p) R = let x = place_names k s R in cond x.new (place_book (k + 1) p x.ranks) x

-- what a function answers and leaves that places names
pub record Places (x : Placing) (answer : Bool) (ranks : List ℕ) : Type 0 where
  pub answer_is : answer ≡ x.new
  pub ranks_is : ranks ≡ x.ranks

-- the ranks, if no name had one before
unfoldable pub ranks_if : Placing → Option Ranks
ranks_if x = cond x.new (Some (record { 0 = x.ranks })) None

unfoldable pub ranks_of : Book → List ℕ
ranks_of p = (place_book 0 p unranked).ranks

-- THE QUESTIONS BY RANKS

unfoldable pub once_by_ranks : Book → Bool
once_by_ranks p = (place_book 0 p unranked).new

-- every message of a book has a rank
unfoldable pub book_ranked : List ℕ → Book → Bool
book_ranked R p = every (ranked R) (flatten p)

-- no message has a rank above x by the ranks R, and a rank below y by the ranks Q
unfoldable pub in_order : List ℕ → List ℕ → List Name → ℕ → ℕ → Bool
in_order R Q ms x y = every (λ b. not (ltb x (rank_of R b) && ltb (rank_of Q b) y)) ms

unfoldable pub ranks_agree : List Name → List ℕ → List ℕ → Bool
ranks_agree ms R Q = every (λ a. in_order R Q ms (rank_of R a) (rank_of Q a)) ms

unfoldable pub agree_with : List Name → List ℕ → List Book → Bool
agree_with ms R ps = every (λ q. ranks_agree ms R (ranks_of q)) ps

unfoldable pub agree_by_ranks : List Name → List Book → Bool
agree_by_ranks ms [] = true
agree_by_ranks ms (p ∷ ps) = agree_with ms (ranks_of p) ps && agree_by_ranks ms ps

-- questions 22 to 24, the messages sent having the ranks R
unfoldable pub book_refusal : List Name → List ℕ → List Book → ℕ
book_refusal ms R ps = first_no (ask 22 (every once_by_ranks ps) ∷ ask 23 (every (book_ranked R) ps) ∷ ask 24 (agree_by_ranks ms ps) ∷ [])

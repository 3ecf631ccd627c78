-- Delivery books: the layout of a book file, the questions that are put to it, and the file of given books.
-- Words: a book is the history of the message sets that a process scd-delivered.
use Rattle.std.specs.Prelude.{ℕ, zero, suc, ◌+◌, ◌-◌, ◌/◌, ◌%◌, Bool, true, false, not, ◌&&◌, cond, length, take, drop, eqb, leb, ltb}
use mathlib.Core.List.{List, [], ◌∷◌, ◌++◌, map, flatten}
use Rattle.lists.specs.Every.{every}
use Rattle.model.specs.Tables.{seats, capacity}
use Rattle.model.specs.Records.{byte, word}
use Rattle.model.specs.Fair.{named}
use Rattle.model.specs.Names.{name, has, twice}
use Rattle.model.specs.Questions.{Question, ask, first_no, longest_file}
use Rattle.model.specs.declared.Name.{Name}

-- the sets of a panel, in order
abbrev pub Book : Type 0
Book = List (List Name)

-- PARTS: a length of w bytes, 1 or 2, the high byte first, and then as many bytes as it counts

unfoldable pub size_in : ℕ → List ℕ → ℕ
size_in w s = cond (eqb w 1) (byte s 0) (word s 0)

-- the parts of s, one after the other to its end, after k bytes that belong to the part before
unfoldable pub parts : ℕ → ℕ → List ℕ → List (List ℕ)
parts w k [] = []
parts w zero (b ∷ s) = let n = size_in w (b ∷ s) in take n (drop w (b ∷ s)) ∷ parts w (w - 1 + n) s
parts w (suc k) (b ∷ s) = parts w k s

-- each part is there whole, its length too
unfoldable pub whole : ℕ → ℕ → List ℕ → Bool
whole w k [] = eqb k 0
whole w zero (b ∷ s) = whole w (w - 1 + size_in w (b ∷ s)) s
whole w (suc k) (b ∷ s) = whole w k s

-- THE LAYOUT

-- "A message is two bytes, sender (1 to 7) and number (1 to 64)"
unfoldable pub names : List ℕ → List Name
names [] = []
names (c ∷ []) = []
names (c ∷ k ∷ s) = name c k ∷ names s

unfoldable pub good_names : List ℕ → Bool
good_names [] = true
good_names (c ∷ []) = false
good_names (c ∷ k ∷ s) = (named seats c && named capacity k) && good_names s

-- "a set is one length byte and its messages, at least one"
abbrev pub book_in : List ℕ → Book
book_in s = map names (parts 1 0 s)

abbrev pub good_set : List ℕ → Bool
good_set s = ltb 0 (length s) && good_names s

unfoldable pub good_book : List ℕ → Bool
good_book s = whole 1 0 s && every good_set (parts 1 0 s)

-- "A book file has a version byte 1, a two-byte length and the messages sent": "At most 64 messages may be sent, none listed twice."
abbrev pub book_version : ℕ
book_version = 1

abbrev pub after_sent : List ℕ → ℕ
after_sent s = 3 + word s 1

abbrev pub sent_bytes : List ℕ → List ℕ
sent_bytes s = take (word s 1) (drop 3 s)

unfoldable pub good_sent : List ℕ → Bool
good_sent s = good_names s && (leb (length (names s)) capacity && not (twice (names s)))

-- "then, to the end of the file, for each of 1 to 7 panels a two-byte length and its sets"
abbrev pub panel_bytes : List ℕ → List ℕ
panel_bytes s = drop (after_sent s) s

unfoldable pub good_panels : List ℕ → Bool
good_panels s = (whole 2 0 s && every good_book (parts 2 0 s)) && named seats (length (parts 2 0 s))

unfoldable pub laid_out : List ℕ → Bool
laid_out s =
    (leb (length s) longest_file && eqb (byte s 0) book_version)
    && (leb (after_sent s) (length s) && (good_sent (sent_bytes s) && good_panels (panel_bytes s)))

-- the books of the panels
abbrev pub books_in : List ℕ → List Book
books_in s = map book_in (parts 2 0 s)

-- THE QUESTIONS

-- 22: "no message comes twice at a panel"
unfoldable pub applied_once : Book → Bool
applied_once p = not (twice (flatten p))

-- 23: "each was sent"
unfoldable pub all_sent : List Name → Book → Bool
all_sent ms p = every (λ m. has m ms) (flatten p)

-- the place of the set that has a message, from 0; "a message that a panel lacks stands behind all that it has", and two that it lacks
-- have one place
unfoldable pub place_in : Book → Name → ℕ
place_in [] m = 0
place_in (s ∷ p) m = cond (has m s) 0 (suc (place_in p m))

-- a panel has the first in an earlier set than the second
abbrev pub earlier : Book → Name → Name → Bool
earlier p a b = ltb (place_in p a) (place_in p b)

-- 24: "no two panels have two messages in opposite set order"
unfoldable pub agree : List Name → Book → Book → Bool
agree ms p q = every (λ a. every (λ b. not (earlier p a b && earlier q b a)) ms) ms

unfoldable pub all_agree : List Name → List Book → Bool
all_agree ms [] = true
all_agree ms (p ∷ ps) = every (agree ms p) ps && all_agree ms ps

-- "It refuses with 22 a repeat, then 23 a message not sent, then 24 an opposite pair", each of the whole file before the next
unfoldable pub book_questions : List ℕ → List Question
book_questions s =
    let ms = names (sent_bytes s) in
    let ps = books_in (panel_bytes s) in
    ask 5 (laid_out s)
    ∷ ask 22 (every applied_once ps)
    ∷ ask 23 (every (all_sent ms) ps)
    ∷ ask 24 (all_agree ms ps)
    ∷ []

unfoldable pub check_books : List ℕ → ℕ
check_books s = first_no (book_questions s)

-- THE FILE of messages sent and of books

unfoldable pub size_bytes : ℕ → ℕ → List ℕ
size_bytes w n = cond (eqb w 1) (n ∷ []) (n / 256 ∷ n % 256 ∷ [])

unfoldable pub part_of : ℕ → List ℕ → List ℕ
part_of w s = size_bytes w (length s) ++ s

unfoldable pub name_bytes : List Name → List ℕ
name_bytes [] = []
name_bytes (m ∷ ms) = m.sender ∷ m.number.0 ∷ name_bytes ms

unfoldable pub book_bytes : Book → List ℕ
book_bytes p = flatten (map (λ ms. part_of 1 (name_bytes ms)) p)

unfoldable pub book_file : List Name → List Book → List ℕ
book_file ms ps = book_version ∷ part_of 2 (name_bytes ms) ++ flatten (map (λ p. part_of 2 (book_bytes p)) ps)

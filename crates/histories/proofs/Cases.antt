-- The cases of RULES.md, section 23 (Edges), that are marked P and are those of book files; and for each two of their questions a row in which
-- both are no and the first gives the number. One table; and the one theorem of this table and all others. Assumes nothing.
use mathlib.Core.Path.{◌≡◌, refl}
use Prim.Native.Nat.{ℕ, zero, suc, ◌+◌, ◌/◌, ◌%◌}
use mathlib.Core.Bool.{cond}
use mathlib.Core.List.{List, [], ◌∷◌, ◌++◌, map, flatten}
use lib.ListN.{replicate}
use lib.Dec.{eqb}
use Rattle.lists.specs.Every.{every}
use Rattle.model.specs.Names.{name, same, has, twice}
use Rattle.model.specs.Books.{Book, size_in, parts, whole, names, good_names, good_book, good_sent, good_panels, laid_out, applied_once, all_sent, place_in, agree, all_agree, book_questions, check_books, size_bytes, part_of, name_bytes, book_bytes, book_file}
use Rattle.model.specs.declared.Name.{Name}
use Rattle.model.proofs.Computed.{computed}
use Rattle.previews.proofs.Cases.{EveryCase, every_case}

-- CASES: the bytes of a book file, and the number that they give

record Row : Type 0 where
  bytes : List ℕ
  gives : ℕ

abbrev file : List ℕ → ℕ → Row
file s k = record { bytes = s; gives = k }

-- a message, as 100 times its sender plus its number
message : ℕ → Name
message m = name (m / 100) (m % 100)

-- the sets of a panel: 0 stands between two of them
with_first : Name → Book → Book
with_first m [] = (m ∷ []) ∷ []
with_first m (s ∷ p) = (m ∷ s) ∷ p

sets : List ℕ → Book
sets [] = []
sets (m ∷ ms) = let p = sets ms in cond (eqb m 0) ([] ∷ p) (with_first (message m) p)

-- the file of the messages sent and of each panel's sets
abbrev books : List ℕ → List (List ℕ) → ℕ → Row
books ms ps k = file (book_file (map message ms) (map sets ps)) k

-- n different messages: 1.1 to 1.64, then 2.1 on
many : ℕ → List Name
many zero = []
many (suc k) = many k ++ (name (k / 64 + 1) (k % 64 + 1) ∷ [])

-- the eight messages of the example in section 2 of the article: m1 to m7 of seven processes, and m8 as 1.2
abbrev eight : List ℕ
eight = 101 ∷ 201 ∷ 301 ∷ 401 ∷ 501 ∷ 601 ∷ 701 ∷ 102 ∷ []

-- a worked book file: of the messages 1.1 and 3.1, and of three panels
abbrev worked : List ℕ
worked = 1 ∷ 0 ∷ 4 ∷ 1 ∷ 1 ∷ 3 ∷ 1 ∷ 0 ∷ 3 ∷ 2 ∷ 1 ∷ 1 ∷ 0 ∷ 6 ∷ 2 ∷ 1 ∷ 1 ∷ 2 ∷ 3 ∷ 1 ∷ 0 ∷ 5 ∷ 4 ∷ 1 ∷ 1 ∷ 3 ∷ 1 ∷ []

table : List Row
table =
    -- P: the books of the worked run, at its end
    file worked 0
    -- P: what a panel lacks stands after all that it has
    ∷ books (101 ∷ 201 ∷ []) ((101 ∷ []) ∷ (101 ∷ 0 ∷ 201 ∷ []) ∷ []) 0
    ∷ books (101 ∷ 201 ∷ []) ((101 ∷ []) ∷ (201 ∷ 0 ∷ 101 ∷ []) ∷ []) 24
    ∷ books (101 ∷ 201 ∷ []) ((201 ∷ 0 ∷ 101 ∷ []) ∷ (101 ∷ []) ∷ []) 24
    -- P: two panels of which each lacks what the other has
    ∷ books (101 ∷ 301 ∷ []) ((101 ∷ []) ∷ (301 ∷ []) ∷ []) 24
    ∷ books (101 ∷ 201 ∷ 301 ∷ []) ((101 ∷ 0 ∷ 301 ∷ []) ∷ (101 ∷ 0 ∷ 201 ∷ []) ∷ []) 24
    -- P: two messages that a panel lacks are in no order there
    ∷ books (101 ∷ 201 ∷ []) ([] ∷ (101 ∷ 0 ∷ 201 ∷ []) ∷ []) 0
    ∷ books (101 ∷ 201 ∷ []) ([] ∷ (201 ∷ 0 ∷ 101 ∷ []) ∷ []) 0
    ∷ books (101 ∷ 201 ∷ 301 ∷ []) ((301 ∷ []) ∷ (301 ∷ 0 ∷ 201 ∷ 0 ∷ 101 ∷ []) ∷ []) 0
    -- P: two messages in opposite set order at the first and the third panel, at the second and the third, and at the first and the second
    ∷ books (101 ∷ 201 ∷ []) ((101 ∷ 0 ∷ 201 ∷ []) ∷ (101 ∷ 201 ∷ []) ∷ (201 ∷ 0 ∷ 101 ∷ []) ∷ []) 24
    ∷ books (101 ∷ 201 ∷ []) ((101 ∷ 201 ∷ []) ∷ (101 ∷ 0 ∷ 201 ∷ []) ∷ (201 ∷ 0 ∷ 101 ∷ []) ∷ []) 24
    ∷ books (101 ∷ 201 ∷ []) ((101 ∷ 0 ∷ 201 ∷ []) ∷ (201 ∷ 0 ∷ 101 ∷ []) ∷ (101 ∷ 201 ∷ []) ∷ []) 24
    -- P: the same of messages whose sets are neighbours at no more than one of the two panels
    ∷ books (101 ∷ 201 ∷ 301 ∷ []) ((101 ∷ 0 ∷ 201 ∷ 0 ∷ 301 ∷ []) ∷ (201 ∷ 0 ∷ 301 ∷ 0 ∷ 101 ∷ []) ∷ []) 24
    -- P: two messages in one set at one panel and in two sets at the other
    ∷ books (101 ∷ 201 ∷ []) ((101 ∷ 201 ∷ []) ∷ (101 ∷ 0 ∷ 201 ∷ []) ∷ []) 0
    ∷ books (101 ∷ 201 ∷ []) ((201 ∷ 0 ∷ 101 ∷ []) ∷ (101 ∷ 201 ∷ []) ∷ []) 0
    -- P: a repeat within a set, across two sets, and across two that are not neighbours; the same message at two panels is none
    ∷ books (101 ∷ []) ((101 ∷ 101 ∷ []) ∷ []) 22
    ∷ books (101 ∷ []) ((101 ∷ 0 ∷ 101 ∷ []) ∷ []) 22
    ∷ books (101 ∷ 201 ∷ []) ([] ∷ (101 ∷ 0 ∷ 201 ∷ 0 ∷ 101 ∷ []) ∷ []) 22
    ∷ books (101 ∷ []) ((101 ∷ []) ∷ (101 ∷ []) ∷ []) 0
    -- P: a message that was not sent
    ∷ books [] ((101 ∷ []) ∷ []) 23
    ∷ books (101 ∷ 201 ∷ []) ((101 ∷ []) ∷ (101 ∷ 0 ∷ 102 ∷ 201 ∷ []) ∷ []) 23
    -- P: 22 of the last panel before 23 of the first; 22 before 24; 23 before 24
    ∷ books (101 ∷ []) ((201 ∷ []) ∷ (101 ∷ 0 ∷ 101 ∷ []) ∷ []) 22
    ∷ books (101 ∷ 201 ∷ []) ((101 ∷ 0 ∷ 201 ∷ []) ∷ (201 ∷ 0 ∷ 101 ∷ []) ∷ (201 ∷ 201 ∷ []) ∷ []) 22
    ∷ books (101 ∷ 201 ∷ []) ((101 ∷ 0 ∷ 201 ∷ []) ∷ (201 ∷ 0 ∷ 101 ∷ []) ∷ (301 ∷ []) ∷ []) 23
    -- P: an odd length of a set, of one byte and of three
    ∷ file (1 ∷ 0 ∷ 2 ∷ 1 ∷ 1 ∷ 0 ∷ 2 ∷ 1 ∷ 1 ∷ []) 5
    ∷ file (1 ∷ 0 ∷ 2 ∷ 1 ∷ 1 ∷ 0 ∷ 4 ∷ 3 ∷ 1 ∷ 1 ∷ 1 ∷ []) 5
    -- P: 5 before 22, 23 and 24: the last panel has an empty set
    ∷ file (1 ∷ 0 ∷ 2 ∷ 1 ∷ 1 ∷ 0 ∷ 5 ∷ 4 ∷ 1 ∷ 1 ∷ 1 ∷ 1 ∷ 0 ∷ 1 ∷ 0 ∷ []) 5
    ∷ file (1 ∷ 0 ∷ 0 ∷ 0 ∷ 3 ∷ 2 ∷ 1 ∷ 1 ∷ 0 ∷ 1 ∷ 0 ∷ []) 5
    ∷ file (1 ∷ 0 ∷ 4 ∷ 1 ∷ 1 ∷ 3 ∷ 1 ∷ 0 ∷ 3 ∷ 2 ∷ 1 ∷ 1 ∷ 0 ∷ 3 ∷ 2 ∷ 3 ∷ 1 ∷ 0 ∷ 1 ∷ 0 ∷ []) 5
    -- P: the example of the article, section 2: deliveries that respect the definition, and those that do not, as far as they are given
    ∷ books eight (
    (101 ∷ 201 ∷ 0 ∷ 301 ∷ 401 ∷ 501 ∷ 0 ∷ 601 ∷ 0 ∷ 701 ∷ 102 ∷ [])
    ∷ (101 ∷ 0 ∷ 201 ∷ 301 ∷ 0 ∷ 401 ∷ 501 ∷ 601 ∷ 0 ∷ 701 ∷ 0 ∷ 102 ∷ [])
    ∷ (101 ∷ 201 ∷ 301 ∷ 0 ∷ 401 ∷ 501 ∷ 601 ∷ 0 ∷ 701 ∷ 0 ∷ 102 ∷ [])
    ∷ []
    ) 0
    ∷ books eight ((101 ∷ 201 ∷ 0 ∷ 301 ∷ 401 ∷ 501 ∷ []) ∷ (101 ∷ 301 ∷ 0 ∷ 201 ∷ []) ∷ []) 24
    -- and those continued to the eighth message
    ∷ books eight (
    (101 ∷ 201 ∷ 0 ∷ 301 ∷ 401 ∷ 501 ∷ 0 ∷ 601 ∷ 0 ∷ 701 ∷ 102 ∷ [])
    ∷ (101 ∷ 301 ∷ 0 ∷ 201 ∷ 0 ∷ 401 ∷ 501 ∷ 601 ∷ 0 ∷ 701 ∷ 0 ∷ 102 ∷ [])
    ∷ []
    ) 24
    -- P: panels with equal sets, also with the messages of a set in another order
    ∷ books (101 ∷ 201 ∷ 301 ∷ []) ((301 ∷ 101 ∷ 0 ∷ 201 ∷ []) ∷ (301 ∷ 101 ∷ 0 ∷ 201 ∷ []) ∷ (101 ∷ 301 ∷ 0 ∷ 201 ∷ []) ∷ []) 0
    -- P: no message sent, and panels without sets; messages sent that no panel has
    ∷ file (1 ∷ 0 ∷ 0 ∷ 0 ∷ 0 ∷ []) 0
    ∷ books (101 ∷ 201 ∷ []) ([] ∷ [] ∷ []) 0
    -- P: a panel's length may be odd: one set of one message
    ∷ file (1 ∷ 0 ∷ 2 ∷ 1 ∷ 1 ∷ 0 ∷ 3 ∷ 2 ∷ 1 ∷ 1 ∷ []) 0
    -- P: 7 panels and 8; none
    ∷ books (101 ∷ []) (replicate 7 (101 ∷ [])) 0
    ∷ books (101 ∷ []) (replicate 8 (101 ∷ [])) 5
    ∷ books [] (replicate 7 []) 0
    ∷ books [] (replicate 8 []) 5
    ∷ file (1 ∷ 0 ∷ 0 ∷ []) 5
    ∷ file (1 ∷ 0 ∷ 2 ∷ 1 ∷ 1 ∷ []) 5
    -- P: no bytes; another version; too short for the length of the messages sent
    ∷ file [] 5
    ∷ file (0 ∷ 0 ∷ 0 ∷ 0 ∷ 0 ∷ []) 5
    ∷ file (2 ∷ 0 ∷ 0 ∷ 0 ∷ 0 ∷ []) 5
    ∷ file (1 ∷ []) 5
    ∷ file (1 ∷ 0 ∷ []) 5
    -- P: the length of the messages sent passes the end, by one byte, and by its high byte alone
    ∷ file (1 ∷ 0 ∷ 2 ∷ 1 ∷ []) 5
    ∷ file (1 ∷ 1 ∷ 0 ∷ 0 ∷ 0 ∷ []) 5
    -- P: so does a panel's length; only one byte of it is there, or is left over
    ∷ file (1 ∷ 0 ∷ 2 ∷ 1 ∷ 1 ∷ 0 ∷ 4 ∷ 2 ∷ 1 ∷ 1 ∷ []) 5
    ∷ file (1 ∷ 0 ∷ 0 ∷ 1 ∷ 0 ∷ []) 5
    ∷ file (1 ∷ 0 ∷ 0 ∷ 0 ∷ []) 5
    ∷ file (1 ∷ 0 ∷ 0 ∷ 0 ∷ 0 ∷ 0 ∷ []) 5
    ∷ file (worked ++ (0 ∷ [])) 5
    -- P: a set's length passes the panel's end: at the end of the file, and where bytes follow
    ∷ file (1 ∷ 0 ∷ 2 ∷ 1 ∷ 1 ∷ 0 ∷ 2 ∷ 2 ∷ 1 ∷ []) 5
    ∷ file (1 ∷ 0 ∷ 2 ∷ 1 ∷ 1 ∷ 0 ∷ 1 ∷ 2 ∷ 1 ∷ 1 ∷ []) 5
    ∷ file (1 ∷ 0 ∷ 2 ∷ 1 ∷ 1 ∷ 0 ∷ 1 ∷ 2 ∷ 0 ∷ 3 ∷ 2 ∷ 1 ∷ 1 ∷ []) 5
    -- P: an odd length of the messages sent
    ∷ file (1 ∷ 0 ∷ 1 ∷ 1 ∷ 0 ∷ 0 ∷ []) 5
    ∷ file (1 ∷ 0 ∷ 3 ∷ 1 ∷ 1 ∷ 2 ∷ 0 ∷ 0 ∷ []) 5
    -- P: an empty set, alone, before another and after it
    ∷ file (1 ∷ 0 ∷ 0 ∷ 0 ∷ 1 ∷ 0 ∷ []) 5
    ∷ file (1 ∷ 0 ∷ 2 ∷ 1 ∷ 1 ∷ 0 ∷ 4 ∷ 0 ∷ 2 ∷ 1 ∷ 1 ∷ []) 5
    ∷ file (1 ∷ 0 ∷ 2 ∷ 1 ∷ 1 ∷ 0 ∷ 4 ∷ 2 ∷ 1 ∷ 1 ∷ 0 ∷ []) 5
    -- P: sender 7 and number 64; senders 0 and 8, and numbers 0 and 65, of a message sent and in a set
    ∷ books (764 ∷ []) ((764 ∷ []) ∷ []) 0
    ∷ file (1 ∷ 0 ∷ 2 ∷ 0 ∷ 1 ∷ 0 ∷ 0 ∷ []) 5
    ∷ file (1 ∷ 0 ∷ 2 ∷ 8 ∷ 1 ∷ 0 ∷ 0 ∷ []) 5
    ∷ file (1 ∷ 0 ∷ 2 ∷ 1 ∷ 0 ∷ 0 ∷ 0 ∷ []) 5
    ∷ file (1 ∷ 0 ∷ 2 ∷ 1 ∷ 65 ∷ 0 ∷ 0 ∷ []) 5
    ∷ file (1 ∷ 0 ∷ 0 ∷ 0 ∷ 3 ∷ 2 ∷ 0 ∷ 1 ∷ []) 5
    ∷ file (1 ∷ 0 ∷ 0 ∷ 0 ∷ 3 ∷ 2 ∷ 8 ∷ 1 ∷ []) 5
    ∷ file (1 ∷ 0 ∷ 0 ∷ 0 ∷ 3 ∷ 2 ∷ 1 ∷ 0 ∷ []) 5
    ∷ file (1 ∷ 0 ∷ 0 ∷ 0 ∷ 3 ∷ 2 ∷ 1 ∷ 65 ∷ []) 5
    -- P: a message sent twice
    ∷ books (101 ∷ 101 ∷ []) ([] ∷ []) 5
    ∷ books (101 ∷ 201 ∷ 101 ∷ []) ([] ∷ []) 5
    -- P: 64 messages sent, and 65
    ∷ file (book_file (many 64) ((many 64 ∷ []) ∷ [] ∷ [])) 0
    ∷ file (book_file (many 65) ([] ∷ [])) 5
    -- P: the layout of a set of 127 messages is right, and so is that of a panel of 510 bytes: 22 or 23 refuses them
    ∷ file (book_file (many 1) ((replicate 127 (name 1 1) ∷ []) ∷ [])) 22
    ∷ file (book_file (many 64) ((many 127 ∷ []) ∷ [])) 23
    ∷ file (book_file (many 1) ((replicate 127 (name 1 1) ∷ replicate 127 (name 1 1) ∷ []) ∷ [])) 22
    -- P: 65,535 bytes, and 65,536
    ∷ file (book_file (many 1) ((replicate 100 (name 1 1) ∷ replicate 23 (name 1 1) ∷ replicate 256 (replicate 127 (name 1 1))) ∷ [])) 22
    ∷ file (book_file (many 1) ((replicate 124 (name 1 1) ∷ replicate 256 (replicate 127 (name 1 1))) ∷ [])) 5
    ∷ []

results : List Row → List ℕ
results [] = []
results (r ∷ rs) = check_books r.bytes ∷ results rs

expected : List Row → List ℕ
expected [] = []
expected (r ∷ rs) = r.gives ∷ expected rs

-- all P cases: those of book files, the bytes of the worked one among them, and all others
pub record BookCases : Type 0 where
  books : results table ≡ expected table
  written : book_file (map message (101 ∷ 301 ∷ [])) (map sets ((101 ∷ []) ∷ (101 ∷ 0 ∷ 301 ∷ []) ∷ (101 ∷ 301 ∷ []) ∷ [])) ≡ worked
  others : EveryCase

pub book_cases : BookCases
unfolding computed results expected table message with_first sets many every flatten same has twice size_in parts whole names good_names good_book good_sent good_panels laid_out applied_once all_sent place_in agree all_agree book_questions check_books size_bytes part_of name_bytes book_bytes book_file
book_cases = record { books = refl; written = refl; others = every_case }

-- The file of messages sent and of books is laid out as a book file, and it reads as the messages and the books that it was written from.
-- Assumes nothing.
use Prim.Native.Nat.{ℕ, suc, ◌+◌, ◌*◌, ◌≤◌, ◌<◌}
use mathlib.Core.Path.{◌≡◌, refl, sym, ap, ◌∙◌}
use mathlib.Core.Bool.{true, false, ◌&&◌}
use mathlib.Core.List.{List, [], ◌∷◌, ◌++◌, map, map-map, append_assoc, flatten}
use native.Mathlib.Nat.{zero-add, mod-lt, div-add-mod', div-lt_iff_lt-mul}
use native.Mathlib.Omega.{arith}
use lib.ListN.{length, take, drop, length-append, length-map}
use lib.Seq.{drop_at, take-append_seam}
use lib.Dec.{eqb, ltb}
use borrow.Author.Tests.{leb-true, le-leb, lt-ltb}
use Rattle.lists.specs.Every.{Every, every}
use Rattle.lists.proofs.Tests.{and_left, and_right, both}
use Rattle.lists.proofs.Every.{every_append, every_weaker, every-parts, every_map, every_test}
use Rattle.model.specs.Tables.{seats, capacity}
use Rattle.model.specs.Names.{twice}
use Rattle.model.specs.Fair.{named}
use Rattle.model.specs.Records.{byte, word}
use Rattle.model.specs.Questions.{longest_file, first_no}
use Rattle.model.specs.Books.{Book, size_in, parts, whole, names, good_names, book_in, good_set, good_book, book_version, after_sent, sent_bytes, good_sent, panel_bytes, good_panels, laid_out, books_in, applied_once, all_sent, all_agree, book_questions, check_books, size_bytes, part_of, name_bytes, book_bytes, book_file}
use Rattle.model.specs.declared.Name.{Name}
use Rattle.histories.proofs.Parts.{parts_turn, whole_turn}

map_back : {A B : Type 0} (f : B → A) (g : A → B) → ((x : A) → f (g x) ≡ x) → (xs : List A) → map f (map g xs) ≡ xs
map_back f g e [] = refl
map_back f g e (x ∷ xs) = rw (e x, map_back f g e xs)

-- PARTS

-- a width, w + 1, whose length bytes read as the length that they were written from
record Width (w : ℕ) : Type 0 where
  wide : (n : ℕ) → length (size_bytes (suc w) n) ≡ suc w
  read : (n : ℕ) (s : List ℕ) → size_in (suc w) (size_bytes (suc w) n ++ s) ≡ n

one : Width 0
unfolding size_bytes size_in
one = record { wide = λ n. refl; read = λ n s. refl }

two : Width 1
unfolding size_bytes size_in
two = record { wide = λ n. refl; read = λ n s. div-add-mod' n 256 }

module _ {w : ℕ} (r : Width w) (s rest : List ℕ) where
  abbrev size : List ℕ
  size = size_bytes (suc w) (length s)

  abbrev file : List ℕ
  file = part_of (suc w) s ++ rest

  length_file : length file ≡ suc w + length s + length rest
  unfolding part_of
  length_file = simp length-append (omega (arith, r.wide (length s)))

  size_read : size_in (suc w) file ≡ length s
  unfolding part_of
  size_read = rw append_assoc (r.read (length s) (s ++ rest))

  content : take (length s) (drop (suc w) file) ≡ s
  unfolding part_of
  content = rw (append_assoc, drop_at size (s ++ rest) (suc w) (r.wide (length s))) (take-append_seam s rest)

  after : drop (suc w + length s) file ≡ rest
  unfolding part_of
  after = drop_at (size ++ s) rest (suc w + length s) (simp length-append (omega (arith, r.wide (length s))))

  -- a part that was written is the first that is read, and the rest follows
  parts_first : parts (suc w) 0 file ≡ s ∷ parts (suc w) 0 rest
  parts_first = parts_turn w file 0 (omega (arith, length_file)) ∙ rw (size_read, zero-add, content, after)

  whole-first : whole (suc w) 0 file ≡ whole (suc w) 0 rest
  whole-first = whole_turn w file 0 (omega (arith, length_file)) ∙ rw (size_read, zero-add, after, le-leb (suc w + length s) (length file) (omega (arith, length_file)))

module _ {w : ℕ} (r : Width w) where
  abbrev filed : List (List ℕ) → List ℕ
  filed ss = flatten (map (part_of (suc w)) ss)

  parts_of_lem : (ss : List (List ℕ)) → parts (suc w) 0 (filed ss) ≡ ss
  unfolding flatten parts
  parts_of_lem [] = refl
  parts_of_lem (s ∷ ss) = parts_first r s (filed ss) ∙ ap (λ (x : List (List ℕ)). s ∷ x) (parts_of_lem ss)

  whole_of : (ss : List (List ℕ)) → whole (suc w) 0 (filed ss) ≡ true
  unfolding flatten whole
  whole_of [] = refl
  whole_of (s ∷ ss) = whole-first r s (filed ss) ∙ whole_of ss

-- MESSAGES

-- "sender (1 to 7) and number (1 to 64)"
abbrev pub InRange : Name → Type 0
InRange m = (named seats m.sender && named capacity m.number.0) ≡ true

names_of : (ms : List Name) → names (name_bytes ms) ≡ ms
unfolding names name_bytes
names_of [] = refl
names_of (m ∷ ms) = ap (λ (x : List Name). m ∷ x) (names_of ms)

good_names_lem : (ms : List Name) → Every InRange ms → good_names (name_bytes ms) ≡ true
unfolding good_names name_bytes Every
good_names_lem [] h = refl
good_names_lem (m ∷ ms) h = both h.0 (good_names_lem ms h.1)

length-names : (ms : List Name) → length (name_bytes ms) ≡ 2 * length ms
unfolding name_bytes
length-names [] = refl
length-names (m ∷ ms) = omega (arith, length-names ms)

-- BOOKS

-- a book that a file can hold: no set is empty, its messages are in range and at most 64
pub record Writable (p : Book) : Type 0 where
  pub filled : Every (λ s. 0 < length s) p
  pub ranged : Every InRange (flatten p)
  pub few : length (flatten p) ≤ capacity

book_parts : (p : Book) → book_bytes p ≡ filed one (map name_bytes p)
unfolding book_bytes
book_parts p = ap flatten (sym (map-map (part_of 1) name_bytes p))

book_read : (p : Book) → book_in (book_bytes p) ≡ p
book_read p = rw (book_parts p, parts_of_lem one (map name_bytes p)) (map_back names name_bytes names_of p)

good_sets : (p : Book) → Every (λ s. 0 < length s) p → Every InRange (flatten p) → every good_set (map name_bytes p) ≡ true
unfolding Every every flatten
good_sets [] f h = refl
good_sets (s ∷ p) f h =
    let q = every-parts InRange s (flatten p) h in
    both (both (lt-ltb 0 (length (name_bytes s)) (omega (arith, length-names s, f.0))) (good_names_lem s q.0)) (good_sets p f.1 q.1)

good_book_lem : (p : Book) → Writable p → good_book (book_bytes p) ≡ true
unfolding good_book
good_book_lem p w = rw (book_parts p, whole_of one (map name_bytes p), parts_of_lem one (map name_bytes p)) (good_sets p w.filled w.ranged)

-- a set takes its length byte and two bytes for each message, and has at least one
length-sets : (p : Book) → Every (λ s. 0 < length s) p → length (book_bytes p) ≤ 3 * length (flatten p)
unfolding book_bytes part_of size_bytes Every flatten
length-sets [] f = omega arith
length-sets (s ∷ p) f =
    simp length-append (omega (arith, length-names s, f.0, length-sets p f.1))

-- THE FILE

-- messages sent and books that a file can hold
pub record FileOf (ms : List Name) (ps : List Book) : Type 0 where
  pub ranged : Every InRange ms
  pub few : length ms ≤ capacity
  pub once : twice ms ≡ false
  pub books : Every Writable ps
  pub some : 0 < length ps
  pub panels : length ps ≤ seats

abbrev panel_file : List Book → List ℕ
panel_file ps = flatten (map (λ p. part_of 2 (book_bytes p)) ps)

panel_parts : (ps : List Book) → panel_file ps ≡ filed two (map book_bytes ps)
panel_parts ps = ap flatten (sym (map-map (part_of 2) book_bytes ps))

panels_read : (ps : List Book) → books_in (panel_file ps) ≡ ps
panels_read ps = rw (panel_parts ps, parts_of_lem two (map book_bytes ps)) (map_back book_in book_bytes book_read ps)

good_books : (ps : List Book) → Every Writable ps → every good_book (map book_bytes ps) ≡ true
good_books ps h = every_test good_book _ (every_map _ book_bytes ps (every_weaker Writable _ good_book_lem ps h))

good_panels_lem : (ps : List Book) → Every Writable ps → 0 < length ps → length ps ≤ seats → good_panels (panel_file ps) ≡ true
unfolding good_panels named
good_panels_lem ps h some few =
    rw (panel_parts ps, whole_of two (map book_bytes ps), parts_of_lem two (map book_bytes ps), good_books ps h, length-map ps book_bytes, lt-ltb 0 (length ps) some, le-leb (length ps) seats few)

-- a panel takes its two length bytes, and at most three for each of its 64 messages
length_panels : (ps : List Book) → Every Writable ps → length (panel_file ps) ≤ 194 * length ps
unfolding part_of size_bytes Every flatten
length_panels [] h = omega arith
length_panels (p ∷ ps) h = simp length-append (omega (arith, length-sets p h.0.filled, h.0.few, length_panels ps h.1))

module _ {ms : List Name} {ps : List Book} (w : FileOf ms ps) where
  sent-size : word (book_file ms ps) 1 ≡ length (name_bytes ms)
  unfolding book_file size_in
  sent-size = size_read two (name_bytes ms) (panel_file ps)

  sent_bytes_lem : sent_bytes (book_file ms ps) ≡ name_bytes ms
  unfolding book_file
  sent_bytes_lem = rw sent-size (content two (name_bytes ms) (panel_file ps))

  panel_bytes_lem : panel_bytes (book_file ms ps) ≡ panel_file ps
  unfolding book_file
  panel_bytes_lem =
      let e : 3 + length (name_bytes ms) ≡ suc (2 + length (name_bytes ms)) = omega arith in
      rw (sent-size, e) (after two (name_bytes ms) (panel_file ps))

  length_whole : length (book_file ms ps) ≡ 3 + length (name_bytes ms) + length (panel_file ps)
  unfolding book_file
  length_whole = omega (arith, length_file two (name_bytes ms) (panel_file ps))

  version : eqb (byte (book_file ms ps) 0) book_version ≡ true
  unfolding book_file
  version = refl

  good_sent_lem : good_sent (name_bytes ms) ≡ true
  unfolding good_sent
  good_sent_lem = rw (good_names_lem ms w.ranged, names_of ms, le-leb (length ms) capacity w.few, w.once)

  -- IT IS LAID OUT as a book file, and reads as what it was written from

  pub file_laid_out : laid_out (book_file ms ps) ≡ true
  unfolding laid_out
  file_laid_out =
      both (both (le-leb (length (book_file ms ps)) longest_file (omega (arith, length_whole, length-names ms, w.few, length_panels ps w.books, w.panels))) version)
      (both (le-leb (after_sent (book_file ms ps)) (length (book_file ms ps)) (omega (arith, length_whole, sent-size)))
      (rw (sent_bytes_lem, panel_bytes_lem) (both good_sent_lem (good_panels_lem ps w.books w.some w.panels))))

  pub sent_read : names (sent_bytes (book_file ms ps)) ≡ ms
  sent_read = rw sent_bytes_lem (names_of ms)

  pub books_read : books_in (panel_bytes (book_file ms ps)) ≡ ps
  books_read = rw panel_bytes_lem (panels_read ps)

-- and so the check asks its questions of these
pub file_checked : {ms : List Name} {ps : List Book} → every applied_once ps ≡ true → every (all_sent ms) ps ≡ true → all_agree ms ps ≡ true → FileOf ms ps → check_books (book_file ms ps) ≡ 0
unfolding check_books book_questions first_no
file_checked a b c w = rw (file_laid_out w, books_read w, sent_read w, a, b, c)

-- ITS NUMBERS ARE BYTES, as lengths are below 256 and 65,536

abbrev pub Bytes : List ℕ → Type 0
Bytes s = Every (λ b. b < 256) s

set_bytes : (s : List ℕ) → length s < 256 → Bytes s → Bytes (part_of 1 s)
unfolding part_of size_bytes Every
set_bytes s k h = (k, h)

part_bytes : (s : List ℕ) → length s < 65536 → Bytes s → Bytes (part_of 2 s)
unfolding part_of size_bytes Every
part_bytes s k h = ((div-lt_iff_lt-mul {k = 256} (omega arith)).1 k, (mod-lt (length s) {m = 256} (omega arith), h))

name_bytes_lem : (ms : List Name) → Every InRange ms → Bytes (name_bytes ms)
unfolding name_bytes named Every
name_bytes_lem [] h = tt
name_bytes_lem (m ∷ ms) h =
    let c = and_left (named seats m.sender) _ h.0 in
    let k = and_right (named seats m.sender) _ h.0 in
    (omega (arith, leb-true m.sender seats (and_right (ltb 0 m.sender) _ c)), (omega (arith, leb-true m.number.0 capacity (and_right (ltb 0 m.number.0) _ k)), name_bytes_lem ms h.1))

book_bytes_lem : (p : Book) → Every InRange (flatten p) → length (flatten p) ≤ capacity → Bytes (book_bytes p)
unfolding book_bytes flatten Every
book_bytes_lem [] h k = tt
book_bytes_lem (s ∷ p) h k =
    let q = every-parts InRange s (flatten p) h in
    let e = length-append s (flatten p) in
    every_append _ (part_of 1 (name_bytes s)) (book_bytes p) (set_bytes (name_bytes s) (omega (arith, e, length-names s)) (name_bytes_lem s q.0)) (book_bytes_lem p q.1 (omega (arith, e)))

panel_file_bytes : (ps : List Book) → Every Writable ps → Bytes (panel_file ps)
unfolding flatten Every
panel_file_bytes [] h = tt
panel_file_bytes (p ∷ ps) h =
    let w = h.0 in
    every_append _ (part_of 2 (book_bytes p)) (panel_file ps) (part_bytes (book_bytes p) (omega (arith, length-sets p w.filled, w.few)) (book_bytes_lem p w.ranged w.few))
    (panel_file_bytes ps h.1)

pub file_bytes : {ms : List Name} {ps : List Book} → FileOf ms ps → Bytes (book_file ms ps)
unfolding book_file Every
file_bytes {ms} {ps} w = (
  omega arith,
  every_append _ (part_of 2 (name_bytes ms)) (panel_file ps) (part_bytes (name_bytes ms) (omega (arith, length-names ms, w.few)) (name_bytes_lem ms w.ranged))
      (panel_file_bytes ps w.books),
)

-- Question 5 part by part, in the order in which the code asks it; and the others after it. Assumes nothing.
use Prim.Native.Nat.{ℕ, zero, suc, ◌+◌, ◌-◌, ◌*◌, ◌≤◌, ◌<◌}
use mathlib.Core.Path.{◌≡◌, refl, sym, ap, ◌∙◌}
use mathlib.Core.Bool.{Bool, true, false, not, ◌&&◌, cond, and-false}
use mathlib.Core.List.{List, [], ◌∷◌, map}
use native.Mathlib.Omega.{arith}
use lib.ListN.{length, get_or, take, drop, length-map, length-take, length-drop}
use lib.Seq.{drop-drop}
use lib.Dec.{eqb, leb}
use denote.Ref.{Bor}
use borrow.Author.Tests.{leb-true, le-leb, lt-leb, eq-eqb, ne_eqb, not-true}
use Rattle.std.specs.Prelude.{Option, MatchOption, Some, None}
use Rattle.lists.specs.Every.{Every, every}
use Rattle.lists.proofs.Every.{every_weaker}
use Rattle.lists.proofs.Tests.{and_left, and_right, both, contradiction}
use Rattle.model.specs.Tables.{seats, capacity}
use Rattle.model.specs.Names.{twice}
use Rattle.model.specs.Fair.{named}
use Rattle.model.specs.Records.{byte, word}
use Rattle.model.specs.Questions.{ask, first_no, longest_file}
use Rattle.model.specs.Books.{size_in, parts, whole, names, book_in, good_names, good_book, book_version, after_sent, sent_bytes, good_sent, panel_bytes, good_panels, laid_out, books_in, applied_once, all_sent, all_agree, book_questions, check_books}
use Rattle.model.specs.declared.Name.{Name}
use Rattle.books.specs.Layout.{headed}
use Rattle.books.specs.Ranks.{Placing, place_names, unranked, ranks_if, book_refusal}
use Rattle.books.specs.Files.{IsFile}
use Rattle.books.specs.declared.ranking.Ranks.{Ranks}
use Rattle.books.specs.declared.File.{File}
use Rattle.books.proofs.Codes.{names_in_range, book_in_range}
use Rattle.books.proofs.FirstParts.{SplitOff, tail_is}
use Rattle.books.proofs.Laid.{parts_few}
use Rattle.books.proofs.Ranks.{Fair, new_is, refusal_is}

-- THE HEAD

module _ (s : List ℕ) where
  pub head_short : length s < 3 → headed s ≡ false
  unfolding headed
  head_short h = rw (lt-leb (after_sent s) (length s) (omega arith), and-false (leb (length s) longest_file && eqb (byte s 0) book_version)) refl

  pub head_long : longest_file < length s → headed s ≡ false
  unfolding headed
  head_long h = rw (lt-leb (length s) longest_file h) refl

  pub head_other : (get_or s 0 0 ≡ 1 → ⊥) → headed s ≡ false
  unfolding headed
  head_other h = rw (ne_eqb (byte s 0) book_version h, and-false (leb (length s) longest_file)) refl

  -- what stands after the head is split where the length says
  pub head_split : length s ≤ longest_file → get_or s 0 0 ≡ 1 → 3 ≤ length s → (r : Option (Bor (List ℕ) × Bor (List ℕ))) → SplitOff (take (length s - 3) (drop 3 s)) (word s 1) r
      → MatchOption r (headed s ≡ false) (λ p. (headed s ≡ true) × (p.0.now ≡ sent_bytes s) × (p.1.now ≡ panel_bytes s))
  unfolding headed
  head_split short e k None h = rw (lt-leb (after_sent s) (length s) (omega (arith, h, ap (λ (x : List ℕ). length x) (tail_is s 3), length-drop 3 s)), and-false (leb (length s) longest_file && eqb (byte s 0) book_version)) refl
  head_split short e k (Some p) h = (
    rw (le-leb (length s) longest_file short, eq-eqb (byte s 0) book_version e, le-leb (after_sent s) (length s) (omega (arith, h.0, ap (λ (x : List ℕ). length x) (tail_is s 3), length-drop 3 s))) refl,
    h.1 ∙ ap (λ (x : List ℕ). take (word s 1) x) (tail_is s 3),
    h.2 ∙ (ap (λ (x : List ℕ). drop (word s 1) x) (tail_is s 3) ∙ drop-drop (word s 1) 3 s),
  )

-- THE MESSAGES SENT

-- two bytes each
good_length : (s : List ℕ) → good_names s ≡ true → length s ≡ 2 * length (names s)
unfolding good_names names
good_length [] e = refl
good_length (c ∷ []) e = contradiction e refl
good_length (c ∷ k ∷ s) e = omega (arith, good_length s (and_right (named seats c && named capacity k) _ e))

module _ (s : List ℕ) where
  sent-long : 2 * capacity < length s → good_sent s ≡ false
  unfolding good_sent
  sent-long h = go (good_names s) refl
    where
      go : (b : Bool) → good_names s ≡ b → (b && (leb (length (names s)) capacity && not (twice (names s)))) ≡ false
      go true e = rw (lt-leb (length (names s)) capacity (omega (arith, h, good_length s e)))
      go false e = refl

  sent-bad : good_names s ≡ false → good_sent s ≡ false
  unfolding good_sent
  sent-bad e = rw e

  sent_placed : good_names s ≡ true → length s ≤ 2 * capacity → (place_names 0 (names s) unranked).new ≡ good_sent s
  unfolding good_sent
  sent_placed e h =
      new_is (names s) (names_in_range s e)
      ∙ sym (rw (e, le-leb (length (names s)) capacity (omega (arith, h, good_length s e))))

-- THE BOOKS

-- none is longer than all of them
parts_short : (w k : ℕ) (s : List ℕ) → Every (λ x. length x ≤ length s) (parts w k s)
unfolding parts Every
parts_short w k [] = tt
parts_short w zero (b ∷ s) =
    let n = size_in w (b ∷ s) in
    (omega (arith, length-take n (drop w (b ∷ s)), length-drop w (b ∷ s)), every_weaker (λ x. length x ≤ length s) (λ x. length x ≤ suc (length s)) (λ x h. omega arith) (parts w (w - 1 + n) s) (parts_short w (w - 1 + n) s))
parts_short w (suc k) (b ∷ s) = every_weaker (λ x. length x ≤ length s) (λ x. length x ≤ suc (length s)) (λ x h. omega arith) (parts w k s) (parts_short w k s)

books_fair : (xs : List (List ℕ)) → every good_book xs ≡ true → Every (λ x. length x ≤ longest_file) xs → Every Fair (map book_in xs)
unfolding Every every
books_fair [] e h = tt
books_fair (x ∷ xs) e h = (
  record {
    names = book_in_range x (and_left (good_book x) _ e);
    few = omega (arith, parts_few 1 0 x, length-map (parts 1 0 x) names, h.0);
  },
  books_fair xs (and_right (good_book x) _ e) h.1,
)

-- THE FILE

apart : (a b c d : Bool) → ((a && b) && (c && d)) ≡ (((a && b) && c) && d)
apart true true c d = refl
apart true false c d = refl
apart false b c d = refl

-- whether the messages sent had no rank before, by their ranks
new_of : (x : Placing) (o : Option Ranks) → o ≡ ranks_if x → MatchOption o (x.new ≡ false) (λ r. (x.new ≡ true) × (r.0 ≡ x.ranks))
unfolding ranks_if
new_of x o e = rw e (go x.new x.ranks)
  where
    go : (n : Bool) (R : List ℕ) → MatchOption (cond n (Some (record { 0 = R })) None) (n ≡ false) (λ (r : Ranks). (n ≡ true) × (r.0 ≡ R))
    go true R = (refl, refl)
    go false R = refl

module _ (s : List ℕ) where
  split : laid_out s ≡ (headed s && (good_sent (sent_bytes s) && good_panels (panel_bytes s)))
  unfolding laid_out headed
  split = apart (leb (length s) longest_file) (eqb (byte s 0) book_version) (leb (after_sent s) (length s)) (good_sent (sent_bytes s) && good_panels (panel_bytes s))

  pub head_none : headed s ≡ false → laid_out s ≡ false
  head_none e = split ∙ rw e refl

  pub file_short : headed s ≡ true → length s ≤ longest_file
  unfolding headed
  file_short e = leb-true (length s) longest_file (and_left _ _ (and_left _ _ e))

  -- the parts that the code splits off
  module _ (head : headed s ≡ true) (sent books : List ℕ) (sent_is : sent ≡ sent_bytes s) (books_is : books ≡ panel_bytes s) where
    pub books_short : length books ≤ longest_file
    books_short = omega (arith, ap (λ (x : List ℕ). length x) books_is, length-drop (after_sent s) s, file_short head)

    laid_is : laid_out s ≡ (good_sent sent && good_panels books)
    laid_is = split ∙ rw (head, ← sent_is, ← books_is) refl

    sent_refused : good_sent sent ≡ false → laid_out s ≡ false
    sent_refused e = laid_is ∙ rw e refl

    pub sent_many : 2 * capacity < length sent → laid_out s ≡ false
    sent_many h = sent_refused (sent-long sent h)

    pub sent_bad : good_names sent ≡ false → laid_out s ≡ false
    sent_bad e = sent_refused (sent-bad sent e)

    pub panels_bad : good_panels books ≡ false → laid_out s ≡ false
    panels_bad e = laid_is ∙ rw (e, and-false (good_sent sent)) refl

    module _ (good : good_names sent ≡ true) (few : length sent ≤ 2 * capacity) (o : Option Ranks) (is : o ≡ ranks_if (place_names 0 (names sent) unranked)) where
      pub sent_twice : o ≡ None → laid_out s ≡ false
      sent_twice e =
          let h : (place_names 0 (names sent) unranked).new ≡ false = rw e at (new_of (place_names 0 (names sent) unranked) o is) in
          sent_refused (sym (sent_placed sent good few) ∙ h)

      -- all of it is right
      pub file_is : (f : File) → o ≡ Some f.ranks → good_panels books ≡ true → f.sent.bytes.now ≡ sent → f.books.bytes.now ≡ books → IsFile s f
      file_is f e panels p q =
          let h : ((place_names 0 (names sent) unranked).new ≡ true) × (f.ranks.0 ≡ (place_names 0 (names sent) unranked).ranks) = rw e at (new_of (place_names 0 (names sent) unranked) o is) in
          record {
            laid = laid_is ∙ both (sym (sent_placed sent good few) ∙ h.0) panels;
            sent = ap (λ (x : List ℕ). names x) (p ∙ sent_is);
            ranks = h.1 ∙ ap (λ (x : List ℕ). (place_names 0 (names x) unranked).ranks) sent_is;
            books = ap (λ (x : List ℕ). books_in x) (q ∙ books_is);
          }

  pub refused_5 : laid_out s ≡ false → 5 ≡ check_books s
  unfolding check_books book_questions first_no
  refused_5 e = rw e

  -- and then the other questions
  module _ (laid : laid_out s ≡ true) where
    parts_good : (headed s && (good_sent (sent_bytes s) && good_panels (panel_bytes s))) ≡ true
    parts_good = sym split ∙ laid

    short : length s ≤ longest_file
    short = file_short (and_left (headed s) _ parts_good)

    sent_good : good_sent (sent_bytes s) ≡ true
    sent_good = and_left _ _ (and_right (headed s) _ parts_good)

    panels_good : good_panels (panel_bytes s) ≡ true
    panels_good = and_right (good_sent (sent_bytes s)) _ (and_right (headed s) _ parts_good)

    abbrev ms : List Name
    ms = names (sent_bytes s)

    fair : Every Fair (books_in (panel_bytes s))
    unfolding good_panels
    fair =
        books_fair (parts 2 0 (panel_bytes s)) (and_right (whole 2 0 (panel_bytes s)) _ (and_left (whole 2 0 (panel_bytes s) && every good_book (parts 2 0 (panel_bytes s))) _ panels_good))
        (every_weaker (λ x. length x ≤ length (panel_bytes s)) (λ x. length x ≤ longest_file) (λ x h. omega (arith, length-drop (after_sent s) s, short)) (parts 2 0 (panel_bytes s)) (parts_short 2 0 (panel_bytes s)))

    answered : book_refusal ms (place_names 0 ms unranked).ranks (books_in (panel_bytes s)) ≡ check_books s
    unfolding check_books book_questions first_no good_sent
    answered =
        let good = and_left (good_names (sent_bytes s)) _ sent_good in
        let once = not-true (twice ms) (and_right (leb (length ms) capacity) _ (and_right (good_names (sent_bytes s)) _ sent_good)) in
        refusal_is ms (names_in_range (sent_bytes s) good) once (books_in (panel_bytes s)) fair
        ∙ sym (ap (λ (b : Bool). cond b (first_no (ask 22 (every applied_once (books_in (panel_bytes s))) ∷ ask 23 (every (all_sent ms) (books_in (panel_bytes s))) ∷ ask 24 (all_agree ms (books_in (panel_bytes s))) ∷ [])) 5) laid)

  pub file_answered : (f : File) → IsFile s f → book_refusal (names f.sent.bytes.now) f.ranks.0 (books_in f.books.bytes.now) ≡ check_books s
  file_answered f is = rw (is.sent, is.ranks, is.books) (answered is.laid)

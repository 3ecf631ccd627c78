-- Laws of the check of book files: the numbers that it answers; when the set order of two panels is opposite, said of any two names; and that
-- neither a single panel nor panels with equal sets are refused by 24. Assumes nothing.
use mathlib.Core.Path.{◌≡◌, refl, sym, ap, ◌∙◌}
use mathlib.Core.Bool.{Bool, true, false, not, ◌&&◌, ◌||◌}
use mathlib.Core.Logic.{◌≢◌, ◌↔◌, inl, inr}
use mathlib.Core.List.{List, [], ◌∷◌, flatten}
use Prim.Native.Nat.{ℕ, zero, suc, ◌≤◌, ◌<◌}
use native.Mathlib.Omega.{arith}
use native.Mathlib.Decide.{dec_lt}
use lib.ListN.{length, get_or}
use borrow.Author.Tests.{ltb-true, not-false}
use Rattle.lists.specs.Every.{Every, every}
use Rattle.lists.proofs.Every.{some_fails, every-at}
use Rattle.lists.proofs.Tests.{and_left, and_right, or_cases, or-false, cond_case, not_both, decided, refuted, by_contradiction, contradiction}
use Rattle.model.specs.Names.{name, same, has}
use Rattle.model.specs.Books.{Book, names, sent_bytes, panel_bytes, laid_out, books_in, applied_once, all_sent, place_in, earlier, agree, all_agree, book_questions, check_books}
use Rattle.model.specs.Questions.{ask, first_no}
use Rattle.model.specs.declared.Name.{Name}
use Rattle.model.proofs.Names.{same_true, has-append}
use Rattle.histories.specs.Claims.{BookNumber, accepted, layout, repeated, not_sent, opposite, Opposite, Passed, Alike}

or_second : (a b : Bool) → a ≡ false → (a || b) ≡ true → b ≡ true
or_second a b p e = rw p at e

-- THE NUMBERS

pub checked_numbers : (s : List ℕ) → BookNumber (check_books s)
unfolding check_books book_questions first_no
checked_numbers s =
    let ms = names (sent_bytes s) in
    let ps = books_in (panel_bytes s) in
    go (laid_out s) (every applied_once ps) (every (all_sent ms) ps) (all_agree ms ps)
  where
    go : (a b c d : Bool) → BookNumber (first_no (ask 5 a ∷ ask 22 b ∷ ask 23 c ∷ ask 24 d ∷ []))
    go false b c d = layout
    go true false c d = repeated
    go true true false d = not_sent
    go true true true false = opposite
    go true true true true = accepted

-- PLACES: what a panel lacks stands after all that it has

pub has_before : (p : Book) (m : Name) → has m (flatten p) ≡ true → place_in p m < length p
unfolding place_in flatten has
has_before [] m h = contradiction h refl
has_before (s ∷ p) m h = cond_case (λ k. k < suc (length p)) (has m s) 0 (suc (place_in p m)) (λ _. omega arith) (λ e.
    let q : has m (flatten p) ≡ true = or_second (has m s) (has m (flatten p)) e (sym (has-append m s (flatten p)) ∙ h) in
    omega (arith, has_before p m q))

pub lacks_last : (p : Book) (m : Name) → has m (flatten p) ≡ false → place_in p m ≡ length p
unfolding place_in flatten
lacks_last [] m h = refl
lacks_last (s ∷ p) m h =
    let f = or-false (has m s) (has m (flatten p)) (sym (has-append m s (flatten p)) ∙ h) in
    rw f.0 (ap suc (lacks_last p m f.1))

place_most : (p : Book) (m : Name) → place_in p m ≤ length p
place_most p m = elim (decided (has m (flatten p))) [
  | inl h ↦ omega (arith, has_before p m h)
  | inr h ↦ omega (arith, lacks_last p m h)
]

-- a panel has every message that stands in an earlier set there than another
pub earlier-has : (p : Book) (a b : Name) → earlier p a b ≡ true → has a (flatten p) ≡ true
earlier-has p a b e = by_contradiction (has a (flatten p)) (λ h.
    omega (arith, ltb-true (place_in p a) (place_in p b) e, lacks_last p a h, place_most p b))

earlier_once : (p : Book) (a b : Name) → earlier p a b ≡ true → earlier p b a ≡ true → ⊥
earlier_once p a b e f = omega (arith, ltb-true (place_in p a) (place_in p b) e, ltb-true (place_in p b) (place_in p a) f)

-- OPPOSITE ORDER

-- where every name passes, one of them does
every-has : (f : Name → Bool) (ms : List Name) → every f ms ≡ true → (m : Name) → has m ms ≡ true → f m ≡ true
unfolding every has
every-has f [] e m h = contradiction h refl
every-has f (x ∷ ms) e m h = elim (or_cases (same m x) (has m ms) h) [
  | inl q ↦ rw (same_true m x q) (and_left (f x) (every f ms) e)
  | inr q ↦ every-has f ms (and_right (f x) (every f ms) e) m q
]

-- two panels that disagree, by two of the messages sent
disagree : (ms : List Name) (p q : Book) → agree ms p q ≡ false → (a b : Name) × (earlier p a b ≡ true) × (earlier q b a ≡ true)
unfolding agree
disagree ms p q e =
    let r = some_fails (λ a. every (λ b. not (earlier p a b && earlier q b a)) ms) ms (name 0 0) e in
    let a = get_or ms r.at (name 0 0) in
    let s = some_fails (λ b. not (earlier p a b && earlier q b a)) ms (name 0 0) r.fails in
    let b = get_or ms s.at (name 0 0) in
    let h = not-false (earlier p a b && earlier q b a) s.fails in
    (a, b, and_left (earlier p a b) _ h, and_right (earlier p a b) _ h)

-- two panels that agree, by any two of the messages sent
agreed : (ms : List Name) (p q : Book) → agree ms p q ≡ true → (a b : Name) → has a ms ≡ true → has b ms ≡ true
    → earlier p a b ≡ true → earlier q b a ≡ true → ⊥
unfolding agree
agreed ms p q e a b ha hb =
    not_both (earlier p a b) (earlier q b a)
    (every-has (λ b. not (earlier p a b && earlier q b a)) ms (every-has (λ a. every (λ b. not (earlier p a b && earlier q b a)) ms) ms e a ha) b hb)

opposite_found : (ms : List Name) (ps : List Book) → all_agree ms ps ≡ false → Opposite ps
unfolding all_agree
opposite_found ms [] e = contradiction refl e
opposite_found ms (p ∷ ps) e = go (every (agree ms p) ps) refl e (opposite_found ms ps)
  where
    go : (b : Bool) → every (agree ms p) ps ≡ b → (b && all_agree ms ps) ≡ false → (all_agree ms ps ≡ false → Opposite ps) → Opposite (p ∷ ps)
    go true q h more =
        let r = more h in
        record {
          one = suc r.one;
          other = suc r.other;
          one_there = omega (arith, r.one_there);
          other_there = omega (arith, r.other_there);
          first = r.first;
          second = r.second;
          first_earlier = r.first_earlier;
          second_earlier = r.second_earlier;
        }
    go false q h more =
        let r = some_fails (agree ms p) ps [] q in
        let w = disagree ms p (get_or ps r.at []) r.fails in
        record {
          one = 0;
          other = suc r.at;
          one_there = omega arith;
          other_there = omega (arith, r.there);
          first = w.0;
          second = w.1;
          first_earlier = w.2;
          second_earlier = w.3;
        }

all-agree-at : (ms : List Name) (ps : List Book) → all_agree ms ps ≡ true → (i j : ℕ) → i < j → j < length ps
    → agree ms (get_or ps i []) (get_or ps j []) ≡ true
unfolding all_agree
all-agree-at ms [] e i j l h = absurd (omega arith)
all-agree-at ms (p ∷ ps) e i zero l h = absurd (omega arith)
all-agree-at ms (p ∷ ps) e zero (suc j) l h = every-at (agree ms p) ps [] (and_left _ (all_agree ms ps) e) j (omega arith)
all-agree-at ms (p ∷ ps) e (suc i) (suc j) l h = all-agree-at ms ps (and_right (every (agree ms p) ps) _ e) i j (omega arith) (omega arith)

-- so two panels, the one before the other in the list, have no two messages sent in opposite order
clash : (ms : List Name) (ps : List Book) → all_agree ms ps ≡ true → (i j : ℕ) → i < j → j < length ps → (a b : Name) → has a ms ≡ true → has b ms ≡ true
    → earlier (get_or ps i []) a b ≡ true → earlier (get_or ps j []) b a ≡ true → ⊥
clash ms ps e i j l h = agreed ms (get_or ps i []) (get_or ps j []) (all-agree-at ms ps e i j l h)

-- what stands earlier than another message at a panel was sent
sent-at : (ms : List Name) (ps : List Book) → every (all_sent ms) ps ≡ true → (i : ℕ) → i < length ps → (a b : Name) → earlier (get_or ps i []) a b ≡ true
    → has a ms ≡ true
unfolding all_sent
sent-at ms ps s i h a b e =
    let p = get_or ps i [] in
    every-has (λ m. has m ms) (flatten p) (every-at (all_sent ms) ps [] s i h) a (earlier-has p a b e)

opposite_refuses : (ms : List Name) (ps : List Book) → every (all_sent ms) ps ≡ true → Opposite ps → all_agree ms ps ≡ false
opposite_refuses ms ps s o = refuted (all_agree ms ps) (λ e. go e (dec_lt o.one o.other) (dec_lt o.other o.one))
  where
    first-sent : has o.first ms ≡ true
    first-sent = sent-at ms ps s o.one o.one_there o.first o.second o.first_earlier

    second_sent : has o.second ms ≡ true
    second_sent = sent-at ms ps s o.other o.other_there o.second o.first o.second_earlier

    go : all_agree ms ps ≡ true → Dec (o.one < o.other) → Dec (o.other < o.one) → ⊥
    go e (yes l) d = clash ms ps e o.one o.other l o.other_there o.first o.second first-sent second_sent o.first_earlier o.second_earlier
    go e (no l) (yes k) = clash ms ps e o.other o.one k o.one_there o.second o.first second_sent first-sent o.second_earlier o.first_earlier
    go e (no l) (no k) =
        let r : o.one ≡ o.other = omega arith in
        earlier_once (get_or ps o.other []) o.first o.second (rw r at o.first_earlier) o.second_earlier

-- 24 OF A FILE

refused-at : (s : List ℕ) → check_books s ≡ 24 → Passed s × (all_agree (names (sent_bytes s)) (books_in (panel_bytes s)) ≡ false)
unfolding check_books book_questions first_no
refused-at s e =
    let ms = names (sent_bytes s) in
    let ps = books_in (panel_bytes s) in
    go (laid_out s) (every applied_once ps) (every (all_sent ms) ps) (all_agree ms ps) refl refl refl refl e
  where
    go : (a b c d : Bool) → laid_out s ≡ a → every applied_once (books_in (panel_bytes s)) ≡ b
        → every (all_sent (names (sent_bytes s))) (books_in (panel_bytes s)) ≡ c → all_agree (names (sent_bytes s)) (books_in (panel_bytes s)) ≡ d
        → first_no (ask 5 a ∷ ask 22 b ∷ ask 23 c ∷ ask 24 d ∷ []) ≡ 24
        → Passed s × (all_agree (names (sent_bytes s)) (books_in (panel_bytes s)) ≡ false)
    go false b c d p q r t h = absurd (omega arith)
    go true false c d p q r t h = absurd (omega arith)
    go true true false d p q r t h = absurd (omega arith)
    go true true true false p q r t h = (record { laid_out = p; once = q; sent = r }, t)
    go true true true true p q r t h = absurd (omega arith)

-- a file that 5, 22 and 23 do not refuse is refused by 24 exactly if two of its panels have two messages, any at all, in opposite set order
pub opposite_exactly : (s : List ℕ) → (check_books s ≡ 24) ↔ (Passed s × Opposite (books_in (panel_bytes s)))
unfolding check_books book_questions first_no
opposite_exactly s =
    let ms = names (sent_bytes s) in
    let ps = books_in (panel_bytes s) in (
      (λ e. let r = refused-at s e in (r.0, opposite_found ms ps r.1)),
      (λ w. rw (w.0.laid_out, w.0.once, w.0.sent, opposite_refuses ms ps w.0.sent w.1)),
    )

-- a single panel agrees with itself
pub single_agrees : (ms : List Name) (p : Book) → all_agree ms (p ∷ []) ≡ true
unfolding all_agree every
single_agrees ms p = refl

pub single_never_24 : (s : List ℕ) → length (books_in (panel_bytes s)) ≡ 1 → check_books s ≢ 24
single_never_24 s l e = go (books_in (panel_bytes s)) l (refused-at s e).1
  where
    go : (ps : List Book) → length ps ≡ 1 → all_agree (names (sent_bytes s)) ps ≡ false → ⊥
    go [] l f = omega arith
    go (p ∷ []) l f = contradiction (single_agrees (names (sent_bytes s)) p) f
    go (p ∷ q ∷ ps) l f = omega arith

-- EQUAL SETS

pub alike_self : (p : Book) → Alike p p
unfolding Alike
alike_self [] = tt
alike_self (s ∷ p) = (λ m. refl, alike_self p)

alike_places : (p q : Book) → Alike p q → (m : Name) → place_in p m ≡ place_in q m
unfolding Alike place_in
alike_places [] [] e m = refl
alike_places [] (t ∷ q) e m = absurd e
alike_places (s ∷ p) [] e m = absurd e
alike_places (s ∷ p) (t ∷ q) e m = rw (e.0 m, alike_places p q e.1 m)

every_alike : (ps : List Book) (p : Book) → Every (λ q. Alike q p) ps → (i : ℕ) → i < length ps → Alike (get_or ps i []) p
unfolding Every
every_alike [] p e i h = absurd (omega arith)
every_alike (q ∷ ps) p e zero h = e.0
every_alike (q ∷ ps) p e (suc i) h = every_alike ps p e.1 i (omega arith)

alike_agree : (ps : List Book) (p : Book) → Every (λ q. Alike q p) ps → Opposite ps → ⊥
alike_agree ps p e o =
    let f : (m : Name) → place_in (get_or ps o.one []) m ≡ place_in p m = alike_places (get_or ps o.one []) p (every_alike ps p e o.one o.one_there) in
    let g : (m : Name) → place_in (get_or ps o.other []) m ≡ place_in p m = alike_places (get_or ps o.other []) p (every_alike ps p e o.other o.other_there) in
    earlier_once p o.first o.second (rw (f o.first, f o.second) at o.first_earlier) (rw (g o.second, g o.first) at o.second_earlier)

pub equal_never_24 : (s : List ℕ) (p : Book) → Every (λ q. Alike q p) (books_in (panel_bytes s)) → check_books s ≢ 24
equal_never_24 s p a e = alike_agree (books_in (panel_bytes s)) p a ((opposite_exactly s).0 e).1

-- The ranks that a book gives its messages: they tell whether a message comes twice, and which of two stands in an earlier set. So the
-- questions by ranks are the questions of a book file. Assumes nothing.
use Prim.Native.Nat.{ℕ, suc, ◌+◌, ◌≤◌, ◌<◌}
use mathlib.Core.Path.{◌≡◌, refl, sym, ap, ap₂, fun_ext, ◌∙◌}
use mathlib.Core.Bool.{Bool, true, false, not, ◌&&◌, ◌||◌, cond, and-false}
use mathlib.Core.List.{List, [], ◌∷◌, ◌++◌, flatten}
use native.Mathlib.Omega.{arith}
use lib.ListN.{length, get_or, set, length-set, length-replicate, get_or-replicate}
use lib.Seq.{get_or-set_same, get_or-set_other}
use lib.Dec.{eqb, ltb}
use borrow.Author.Tests.{eqb-true, eq-eqb, ne_eqb, lt-ltb, le-ltb, not-true}
use Rattle.lists.specs.Every.{Every, every}
use Rattle.lists.proofs.Every.{tests_append, every-parts, every_ext, every_both}
use Rattle.lists.proofs.Tests.{and_left, and_right, contradiction}
use Rattle.model.specs.Names.{same, has, twice}
use Rattle.model.specs.Questions.{ask, first_no}
use Rattle.model.specs.Books.{Book, place_in, earlier, applied_once, all_sent, agree, all_agree}
use Rattle.model.specs.declared.Name.{Name}
use Rattle.model.proofs.Names.{same_sym, has-append, apart_of}
use Rattle.histories.proofs.Files.{InRange}
use Rattle.histories.proofs.Laws.{has_before, lacks_last}
use Rattle.books.specs.Ranks.{code_count, code_of, lacking, unranked, rank_of, ranked, Placing, place_names, place_book, ranks_of, once_by_ranks, book_ranked, in_order, ranks_agree, agree_with, agree_by_ranks, book_refusal}
use Rattle.books.proofs.Codes.{code_below, same_code}

-- ONE NAME MORE

module _ (R : List ℕ) (size : length R ≡ code_count) (k : ℕ) (few : k < lacking) (m : Name) (good : InRange m) where
  abbrev next : List ℕ
  next = set R (code_of m) k

  rank_set : (a : Name) → InRange a → rank_of next a ≡ cond (same a m) k (rank_of R a)
  rank_set a ha = rw (same_code a m ha good) (go (eqb (code_of a) (code_of m)) refl)
    where
      go : (b : Bool) → eqb (code_of a) (code_of m) ≡ b → get_or next (code_of a) 0 ≡ cond b k (get_or R (code_of a) 0)
      go true e = rw (eqb-true (code_of a) (code_of m) e) (get_or-set_same R (code_of m) k 0 (omega (arith, code_below m, size)))
      go false e = get_or-set_other R (code_of m) (code_of a) k 0 (λ q. contradiction (eq-eqb (code_of a) (code_of m) q) e)

  ranked-set : (a : Name) → InRange a → ranked next a ≡ (same a m || ranked R a)
  unfolding ranked
  ranked-set a ha = rw (rank_set a ha) (go (same a m))
    where
      go : (b : Bool) → not (eqb (cond b k (rank_of R a)) lacking) ≡ (b || not (eqb (rank_of R a) lacking))
      go true = ap not (ne_eqb k lacking (λ e. omega (arith, e)))
      go false = refl

-- NAMES

-- no name has a rank yet
abbrev Bare : List ℕ → List Name → Bool
Bare R ms = every (λ m. not (ranked R m)) ms

not_or : (a b : Bool) → not (a || b) ≡ (not a && not b)
not_or true b = refl
not_or false b = refl

every_apart : (q r : Name → Bool) (ms : List Name) → every (λ a. not (q a || r a)) ms ≡ (every (λ a. not (q a)) ms && every (λ a. not (r a)) ms)
every_apart q r ms = ap (λ (f : Name → Bool). every f ms) (fun_ext (λ a. not_or (q a) (r a))) ∙ every_both (λ a. not (q a)) (λ a. not (r a)) ms

every_other : (m : Name) (ms : List Name) → every (λ a. not (same a m)) ms ≡ not (has m ms)
unfolding every has
every_other m [] = refl
every_other m (x ∷ ms) = rw (every_other m ms, same_sym x m) (sym (not_or (same m x) (has m ms)))

every_true : (ms : List Name) → every (λ a. true) ms ≡ true
unfolding every
every_true [] = refl
every_true (m ∷ ms) = every_true ms

and_true : (a : Bool) → (a && true) ≡ a
and_true true = refl
and_true false = refl

twice-append : (xs ys : List Name) → not (twice (xs ++ ys)) ≡ (not (twice xs) && (not (twice ys) && every (λ y. not (has y xs)) ys))
unfolding twice has
twice-append [] ys = rw (every_true ys, and_true (not (twice ys)))
twice-append (x ∷ xs) ys =
    ap (λ (b : Bool). not (b || twice (xs ++ ys))) (has-append x xs ys)
    ∙ (not_or (has x xs || has x ys) (twice (xs ++ ys))
    ∙ (ap₂ (λ (a b : Bool). a && b) (not_or (has x xs) (has x ys)) (twice-append xs ys)
    ∙ (go (not (has x xs)) (not (has x ys)) (not (twice xs)) (not (twice ys)) (every (λ y. not (has y xs)) ys)
    ∙ ap₂ (λ (a b : Bool). a && (not (twice ys) && b)) (sym (not_or (has x xs) (twice xs)))
    (sym (every_apart (λ y. same y x) (λ y. has y xs) ys ∙ ap (λ (b : Bool). b && every (λ y. not (has y xs)) ys) (every_other x ys))))))
  where
    go : (a b c d e : Bool) → ((a && b) && (c && (d && e))) ≡ ((a && c) && (d && (b && e)))
    go false b c d e = refl
    go true true c d e = refl
    go true false true true e = refl
    go true false true false e = refl
    go true false false d e = refl

-- they are new exactly if none comes twice and none has a rank
new_names : (k : ℕ) → k < lacking → (ms : List Name) → Every InRange ms → (R : List ℕ) → length R ≡ code_count
    → (place_names k ms R).new ≡ (not (twice ms) && Bare R ms)
unfolding place_names twice every Every
new_names k few [] h R size = refl
new_names k few (m ∷ ms) h R size = go (ranked R m) refl (new_names k few ms h.1 (set R (code_of m) k) (length-set R (code_of m) k ∙ size))
  where
    swap : (t h e : Bool) → (not t && (not h && e)) ≡ (not (h || t) && e)
    swap true true e = refl
    swap true false e = refl
    swap false true e = refl
    swap false false e = refl

    go : (b : Bool) → ranked R m ≡ b → (place_names k ms (set R (code_of m) k)).new ≡ (not (twice ms) && Bare (set R (code_of m) k) ms)
        → (cond b (record { new = false; ranks = R }) (place_names k ms (set R (code_of m) k))).new ≡ (not (has m ms || twice ms) && (not b && Bare R ms))
    go true e more = sym (and-false (not (has m ms || twice ms)))
    go false e more =
        more
        ∙ (ap (λ (b : Bool). not (twice ms) && b)
        (every_ext InRange _ (λ a. not (same a m || ranked R a)) ms h.1 (λ a g. ap not (ranked-set R size k few m h.0 a g))
        ∙ (every_apart (λ a. same a m) (ranked R) ms ∙ ap (λ (b : Bool). b && Bare R ms) (every_other m ms)))
        ∙ swap (twice ms) (has m ms) (Bare R ms))

-- and then they have the rank, and others what they had
names_ranks : (k : ℕ) → k < lacking → (ms : List Name) → Every InRange ms → (R : List ℕ) → length R ≡ code_count
    → (place_names k ms R).new ≡ true → (a : Name) → InRange a → rank_of (place_names k ms R).ranks a ≡ cond (has a ms) k (rank_of R a)
unfolding place_names has Every
names_ranks k few [] h R size new a ha = refl
names_ranks k few (m ∷ ms) h R size new a ha = go (ranked R m) new (λ e. names_ranks k few ms h.1 (set R (code_of m) k) (length-set R (code_of m) k ∙ size) e a ha)
  where
    joined : (s h : Bool) (x y : ℕ) → cond h x (cond s x y) ≡ cond (s || h) x y
    joined true true x y = refl
    joined true false x y = refl
    joined false h x y = refl

    go : (b : Bool) → (cond b (record { new = false; ranks = R }) (place_names k ms (set R (code_of m) k))).new ≡ true
        → ((place_names k ms (set R (code_of m) k)).new ≡ true → rank_of (place_names k ms (set R (code_of m) k)).ranks a ≡ cond (has a ms) k (rank_of (set R (code_of m) k) a))
        → rank_of (cond b (record { new = false; ranks = R }) (place_names k ms (set R (code_of m) k))).ranks a ≡ cond (same a m || has a ms) k (rank_of R a)
    go true e more = contradiction e refl
    go false e more =
        more e
        ∙ (ap (λ (x : ℕ). cond (has a ms) k x) (rank_set R size k few m h.0 a ha) ∙ joined (same a m) (has a ms) k (rank_of R a))

names-size : (k : ℕ) (ms : List Name) (R : List ℕ) → length (place_names k ms R).ranks ≡ length R
unfolding place_names
names-size k [] R = refl
names-size k (m ∷ ms) R = go (ranked R m) (names-size k ms (set R (code_of m) k))
  where
    go : (b : Bool) → length (place_names k ms (set R (code_of m) k)).ranks ≡ length (set R (code_of m) k) → length (cond b (record { new = false; ranks = R }) (place_names k ms (set R (code_of m) k))).ranks ≡ length R
    go true more = refl
    go false more = more ∙ length-set R (code_of m) k

-- those that have a rank afterwards
names-ranked : (k : ℕ) → k < lacking → (ms : List Name) → Every InRange ms → (R : List ℕ) → length R ≡ code_count
    → (place_names k ms R).new ≡ true → (a : Name) → InRange a → ranked (place_names k ms R).ranks a ≡ (has a ms || ranked R a)
unfolding ranked
names-ranked k few ms h R size new a ha = rw (names_ranks k few ms h R size new a ha) (go (has a ms))
  where
    go : (b : Bool) → not (eqb (cond b k (rank_of R a)) lacking) ≡ (b || not (eqb (rank_of R a) lacking))
    go true = ap not (ne_eqb k lacking (λ e. omega (arith, e)))
    go false = refl

-- BOOKS

-- the next set s, of rank k, and the messages f of the sets after it
module _ (k : ℕ) (few : k < lacking) (s f : List Name) (h : Every InRange (s ++ f)) (R : List ℕ) (size : length R ≡ code_count) where
  abbrev x : Placing
  x = place_names k s R

  abbrev here : Every InRange s
  here = (every-parts InRange s f h).0

  abbrev after : Every InRange f
  after = (every-parts InRange s f h).1

  abbrev New : Bool
  New = not (twice (s ++ f)) && Bare R (s ++ f)

  parted : New ≡ ((not (twice s) && (not (twice f) && every (λ y. not (has y s)) f)) && (Bare R s && Bare R f))
  parted = ap₂ (λ (a b : Bool). a && b) (twice-append s f) (tests_append (λ m. not (ranked R m)) s f)

  news : x.new ≡ (not (twice s) && Bare R s)
  news = new_names k few s here R size

  -- one of the set is not new, and so not all are
  set_old : x.new ≡ false → false ≡ New
  set_old e = sym (parted ∙ lost (not (twice s)) (Bare R s) (not (twice f) && every (λ y. not (has y s)) f) (Bare R f) (sym news ∙ e))
    where
      lost : (a b c d : Bool) → (a && b) ≡ false → ((a && c) && (b && d)) ≡ false
      lost true true c d e = contradiction refl e
      lost true false c d e = and-false (true && c)
      lost false b c d e = refl

  -- all of the set are, and so it depends on the others
  set_new : x.new ≡ true → (not (twice f) && Bare x.ranks f) ≡ New
  set_new e =
      ap (λ (b : Bool). not (twice f) && b)
      (every_ext InRange _ (λ a. not (has a s || ranked R a)) f after (λ a g. ap not (names-ranked k few s here R size e a g))
      ∙ every_apart (λ a. has a s) (ranked R) f)
      ∙ (kept (not (twice s)) (Bare R s) (not (twice f)) (every (λ y. not (has y s)) f) (Bare R f) (sym news ∙ e) ∙ sym parted)
    where
      kept : (a b c d e : Bool) → (a && b) ≡ true → (c && (d && e)) ≡ ((a && (c && d)) && (b && e))
      kept true true true d e q = refl
      kept true true false d e q = refl
      kept true false c d e q = contradiction q refl
      kept false b c d e q = contradiction q refl

new_book : (k : ℕ) (p : Book) → k + length p ≤ lacking → Every InRange (flatten p) → (R : List ℕ) → length R ≡ code_count
    → (place_book k p R).new ≡ (not (twice (flatten p)) && Bare R (flatten p))
unfolding place_book flatten twice every
new_book k [] few h R size = refl
new_book k (s ∷ p) few h R size =
    go (place_names k s R).new refl
    (new_book (k + 1) p (omega arith) (every-parts InRange s (flatten p) h).1 (place_names k s R).ranks (names-size k s R ∙ size))
  where
    go : (b : Bool) → (place_names k s R).new ≡ b
        → (place_book (k + 1) p (place_names k s R).ranks).new ≡ (not (twice (flatten p)) && Bare (place_names k s R).ranks (flatten p))
        → (cond b (place_book (k + 1) p (place_names k s R).ranks) (place_names k s R)).new ≡ (not (twice (s ++ flatten p)) && Bare R (s ++ flatten p))
    go false e more = e ∙ set_old k (omega arith) s (flatten p) h R size e
    go true e more = more ∙ set_new k (omega arith) s (flatten p) h R size e

-- and then each message has the rank of its set, and others have what they had
book_ranks : (k : ℕ) (p : Book) → k + length p ≤ lacking → Every InRange (flatten p) → (R : List ℕ) → length R ≡ code_count
    → (place_book k p R).new ≡ true → (a : Name) → InRange a → rank_of (place_book k p R).ranks a ≡ cond (has a (flatten p)) (k + place_in p a) (rank_of R a)
unfolding place_book flatten has place_in
book_ranks k [] few h R size new a ha = refl
book_ranks k (s ∷ p) few h R size new a ha =
    go (place_names k s R).new refl new
    (λ e. book_ranks (k + 1) p (omega arith) (every-parts InRange s (flatten p) h).1 (place_names k s R).ranks (names-size k s R ∙ size) e a ha)
  where
    joined : (b c : Bool) (i r : ℕ) → (b ≡ true → c ≡ false) → cond c (k + 1 + i) (cond b k r) ≡ cond (b || c) (k + cond b 0 (suc i)) r
    joined true true i r apart = contradiction refl (apart refl)
    joined true false i r apart = omega arith
    joined false true i r apart = omega arith
    joined false false i r apart = refl

    once : twice (s ++ flatten p) ≡ false
    once = not-true (twice (s ++ flatten p)) (and_left _ _ (sym (new_book k (s ∷ p) few h R size) ∙ new))

    go : (b : Bool) → (place_names k s R).new ≡ b → (cond b (place_book (k + 1) p (place_names k s R).ranks) (place_names k s R)).new ≡ true
        → ((place_book (k + 1) p (place_names k s R).ranks).new ≡ true
        → rank_of (place_book (k + 1) p (place_names k s R).ranks).ranks a ≡ cond (has a (flatten p)) (k + 1 + place_in p a) (rank_of (place_names k s R).ranks a))
        → rank_of (cond b (place_book (k + 1) p (place_names k s R).ranks) (place_names k s R)).ranks a
        ≡ cond (has a (s ++ flatten p)) (k + cond (has a s) 0 (suc (place_in p a))) (rank_of R a)
    go false e f more = contradiction (sym e ∙ f) refl
    go true e f more =
        more f
        ∙ (ap (λ (r : ℕ). cond (has a (flatten p)) (k + 1 + place_in p a) r) (names_ranks k (omega arith) s (every-parts InRange s (flatten p) h).0 R size e a ha)
        ∙ (joined (has a s) (has a (flatten p)) (place_in p a) (rank_of R a) (apart_of s (flatten p) once a)
        ∙ ap (λ (b : Bool). cond b (k + cond (has a s) 0 (suc (place_in p a))) (rank_of R a)) (sym (has-append a s (flatten p)))))

-- THE QUESTIONS

-- at first nothing has a rank
no_rank : (m : Name) → rank_of unranked m ≡ lacking
no_rank m = get_or-replicate code_count (code_of m) lacking 0 (code_below m)

none-ranked : (ms : List Name) → Bare unranked ms ≡ true
unfolding ranked
none-ranked ms = ap (λ (f : Name → Bool). every f ms) (fun_ext (λ m. ap (λ (r : ℕ). not (not (eqb r lacking))) (no_rank m))) ∙ every_true ms

unranked-size : length unranked ≡ code_count
unranked-size = length-replicate code_count lacking

-- a book whose names are in their ranges, and whose sets have ranks below that of what it lacks
pub record Fair (p : Book) : Type 0 where
  pub names : Every InRange (flatten p)
  pub few : length p ≤ lacking

-- 22
pub once_is : (p : Book) → Fair p → once_by_ranks p ≡ applied_once p
unfolding once_by_ranks applied_once
once_is p fair =
    new_book 0 p (omega (arith, fair.few)) fair.names unranked unranked-size
    ∙ (ap (λ (b : Bool). not (twice (flatten p)) && b) (none-ranked (flatten p)) ∙ and_true (not (twice (flatten p))))

-- 23, and that no message sent is listed twice
pub new_is : (ms : List Name) → Every InRange ms → (place_names 0 ms unranked).new ≡ not (twice ms)
new_is ms good = new_names 0 (omega arith) ms good unranked unranked-size ∙ (ap (λ (b : Bool). not (twice ms) && b) (none-ranked ms) ∙ and_true (not (twice ms)))

module _ (ms : List Name) (good : Every InRange ms) (once : twice ms ≡ false) where
  abbrev R : List ℕ
  R = (place_names 0 ms unranked).ranks

  sent-ranked : (m : Name) → InRange m → ranked R m ≡ has m ms
  unfolding ranked
  sent-ranked m h = names-ranked 0 (omega arith) ms good unranked unranked-size (new_is ms good ∙ ap not once) m h ∙ rw (no_rank m) (or_none_lem (has m ms))
    where
      or_none_lem : (b : Bool) → (b || false) ≡ b
      or_none_lem true = refl
      or_none_lem false = refl

  sent_is : (p : Book) → Every InRange (flatten p) → book_ranked R p ≡ all_sent ms p
  unfolding book_ranked all_sent
  sent_is p h = every_ext InRange (ranked R) (λ m. has m ms) (flatten p) h sent-ranked

-- 24
module _ (p : Book) (fair : Fair p) (once : applied_once p ≡ true) where
  rank_is : (a : Name) → InRange a → rank_of (ranks_of p) a ≡ cond (has a (flatten p)) (place_in p a) lacking
  unfolding ranks_of once_by_ranks
  rank_is a h =
      book_ranks 0 p (omega (arith, fair.few)) fair.names unranked unranked-size (once_is p fair ∙ once) a h
      ∙ ap₂ (λ (i r : ℕ). cond (has a (flatten p)) i r) {x = 0 + place_in p a} {y = place_in p a} (omega arith) (no_rank a)

  earlier_is : (a b : Name) → InRange a → InRange b → ltb (rank_of (ranks_of p) a) (rank_of (ranks_of p) b) ≡ earlier p a b
  earlier_is a b ha hb = ap₂ ltb (rank_is a ha) (rank_is b hb) ∙ go (has a (flatten p)) (has b (flatten p)) refl refl
    where
      go : (x y : Bool) → has a (flatten p) ≡ x → has b (flatten p) ≡ y → ltb (cond x (place_in p a) lacking) (cond y (place_in p b) lacking) ≡ earlier p a b
      go true true e f = refl
      go true false e f =
          lt-ltb (place_in p a) lacking (omega (arith, has_before p a e, fair.few))
          ∙ sym (lt-ltb (place_in p a) (place_in p b) (omega (arith, has_before p a e, lacks_last p b f)))
      go false true e f =
          le-ltb lacking (place_in p b) (omega (arith, has_before p b f, fair.few))
          ∙ sym (le-ltb (place_in p a) (place_in p b) (omega (arith, has_before p b f, lacks_last p a e)))
      go false false e f = sym (le-ltb (place_in p a) (place_in p b) (omega (arith, lacks_last p a e, lacks_last p b f)))

module _ (ms : List Name) (good : Every InRange ms) where
  agree_is : (p q : Book) → Fair p → Fair q → applied_once p ≡ true → applied_once q ≡ true → ranks_agree ms (ranks_of p) (ranks_of q) ≡ agree ms p q
  unfolding ranks_agree in_order agree
  agree_is p q fp fq op oq =
      every_ext InRange _ (λ a. every (λ b. not (earlier p a b && earlier q b a)) ms) ms good
      (λ a ha. every_ext InRange _ (λ b. not (earlier p a b && earlier q b a)) ms good
      (λ b hb. ap₂ (λ (x y : Bool). not (x && y)) (earlier_is p fp op a b ha hb) (earlier_is q fq oq b a hb ha)))

  all-agree_is : (ps : List Book) → Every Fair ps → every applied_once ps ≡ true → agree_by_ranks ms ps ≡ all_agree ms ps
  unfolding agree_by_ranks all_agree agree_with Every every
  all-agree_is [] fair once = refl
  all-agree_is (p ∷ ps) fair once =
      let op = and_left (applied_once p) _ once in
      let os = and_right (applied_once p) _ once in
      ap₂ (λ (a b : Bool). a && b) (with p fair.0 op ps fair.1 os) (all-agree_is ps fair.1 os)
    where
      with : (p : Book) → Fair p → applied_once p ≡ true → (qs : List Book) → Every Fair qs → every applied_once qs ≡ true
          → every (λ q. ranks_agree ms (ranks_of p) (ranks_of q)) qs ≡ every (agree ms p) qs
      with p fp op [] f o = refl
      with p fp op (q ∷ qs) f o =
          ap₂ (λ (a b : Bool). a && b) (agree_is p q fp f.0 op (and_left (applied_once q) _ o)) (with p fp op qs f.1 (and_right (applied_once q) _ o))

-- 22 to 24, in order
abbrev first : Bool → Bool → Bool → ℕ
first a b c = cond a (cond b (cond c 0 24) 23) 22

pub refusal_is : (ms : List Name) → Every InRange ms → twice ms ≡ false → (ps : List Book) → Every Fair ps
    → book_refusal ms (place_names 0 ms unranked).ranks ps
    ≡ first_no (ask 22 (every applied_once ps) ∷ ask 23 (every (all_sent ms) ps) ∷ ask 24 (all_agree ms ps) ∷ [])
unfolding book_refusal first_no
refusal_is ms good once ps fair =
    ap (λ (b : Bool). first b (every (book_ranked (R ms good once)) ps) (agree_by_ranks ms ps)) (every_ext Fair once_by_ranks applied_once ps fair once_is)
    ∙ go (every applied_once ps) refl
  where
    go : (b : Bool) → every applied_once ps ≡ b
        → first b (every (book_ranked (R ms good once)) ps) (agree_by_ranks ms ps) ≡ first b (every (all_sent ms) ps) (all_agree ms ps)
    go true e =
        ap₂ (first true)
        (every_ext Fair (book_ranked (R ms good once)) (all_sent ms) ps fair (λ p f. sent_is ms good once p f.names)) (all-agree_is ms good ps fair e)
    go false e = refl

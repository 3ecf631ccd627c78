-- The ranks of the messages of a set, one after the other, and of a book, set by set; and what two panels answer one for another. Assumes
-- nothing.
use Prim.Native.Nat.{ℕ, ◌+◌}
use mathlib.Core.Path.{◌≡◌, refl, sym, ap, ◌∙◌}
use mathlib.Core.Bool.{Bool, true, false, not, ◌&&◌, cond}
use mathlib.Core.List.{List, [], ◌∷◌, flatten}
use lib.ListN.{get_or, set}
use lib.Dec.{eqb}
use borrow.Author.Tests.{eq-eqb, ne_eqb}
use Rattle.std.specs.Prelude.{Option, Some, None, is_some}
use Rattle.std.specs.Bool.{then_some}
use Rattle.lists.specs.Every.{every}
use Rattle.lists.proofs.Every.{tests_append, every_both}
use Rattle.lists.proofs.Tests.{and_left, and_right, cond_true, cond_false}
use Rattle.model.specs.Books.{Book}
use Rattle.model.specs.declared.Name.{Name}
use Rattle.books.specs.declared.ranking.Ranks.{Ranks}
use Rattle.books.specs.Ranks.{code_of, lacking, ranked, unranked, Placing, place_names, place_book, Places, ranks_if, ranks_of, once_by_ranks, book_ranked, ranks_agree, agree_with, agree_by_ranks}

-- A SET

-- x is what is worked out from the messages left, ms, and the ranks R
module _ (x : Placing) (k : ℕ) (ms : List Name) (R : List ℕ) (is : x ≡ place_names k ms R) where
  pub place_end : ms ≡ [] → Places x true R
  unfolding place_names
  place_end e =
      let f : x ≡ record { new = true; ranks = R } = is ∙ ap (λ (l : List Name). place_names k l R) e in
      record { answer_is = ap (λ (p : Placing). p.new) (sym f); ranks_is = ap (λ (p : Placing). p.ranks) (sym f) }

  module _ (m : Name) (rest : List Name) (next : ms ≡ m ∷ rest) (code : ℕ) (coded : code ≡ code_of m) where
    turn : x ≡ cond (not (eqb (get_or R code 0) lacking)) (record { new = false; ranks = R }) (place_names k rest (set R code k))
    unfolding place_names ranked
    turn = is ∙ (ap (λ (l : List Name). place_names k l R) next ∙ rw coded refl)

    -- the message had a rank before, or it gets its rank
    pub place_stop : (get_or R code 0 ≡ lacking → ⊥) → Places x false R
    place_stop f =
        let e : x ≡ record { new = false; ranks = R } = turn ∙ rw (ne_eqb (get_or R code 0) lacking f) refl in
        record { answer_is = ap (λ (p : Placing). p.new) (sym e); ranks_is = ap (λ (p : Placing). p.ranks) (sym e) }

    pub place_go : get_or R code 0 ≡ lacking → x ≡ place_names k rest (set R code k)
    place_go e = turn ∙ rw (eq-eqb (get_or R code 0) lacking e) refl

-- a set is placed where no message has a rank
pub set_made : (ms : List Name) (R : List ℕ) → R ≡ unranked → (new : Bool) (Q : Ranks) → Places (place_names 0 ms R) new Q.0
    → then_some new Q ≡ ranks_if (place_names 0 ms unranked)
unfolding ranks_if
set_made ms R bare new Q h = let k : Places (place_names 0 ms unranked) new Q.0 = rw bare at h in rw (← k.answer_is, ← k.ranks_is) (go new)
  where
    go : (n : Bool) → then_some n Q ≡ cond n (Some Q) None
    go true = refl
    go false = refl

-- A BOOK

module _ (x : Placing) (k : ℕ) (p : Book) (R : List ℕ) (is : x ≡ place_book k p R) where
  pub book_end : p ≡ [] → (Q : Ranks) → Q.0 ≡ R → Some Q ≡ ranks_if x
  unfolding place_book ranks_if
  book_end e Q f = sym (ap ranks_if is ∙ (ap (λ (l : Book). ranks_if (place_book k l R)) e ∙ rw (← f) refl))

  -- the next set is placed, with an answer and ranks
  module _ (s : List Name) (rest : Book) (next : p ≡ s ∷ rest) (new : Bool) (Q : List ℕ) (placed : Places (place_names k s R) new Q) where
    abbrev y : Placing
    y = place_names k s R

    step : x ≡ cond y.new (place_book (k + 1) rest y.ranks) y
    unfolding place_book
    step = is ∙ ap (λ (l : Book). place_book k l R) next

    pub book_stop : new ≡ false → None ≡ ranks_if x
    unfolding ranks_if
    book_stop e = sym (ap ranks_if (step ∙ cond_false _ y (sym placed.answer_is ∙ e)) ∙ rw (← placed.answer_is, e) refl)

    pub book_go : new ≡ true → x ≡ place_book (k + 1) rest Q
    book_go e = step ∙ (cond_true _ y (sym placed.answer_is ∙ e) ∙ ap (place_book (k + 1) rest) (sym placed.ranks_is))

pub ranked_sets : (R : List ℕ) (p : Book) → every (λ ms. every (ranked R) ms) p ≡ book_ranked R p
unfolding every book_ranked flatten
ranked_sets R [] = refl
ranked_sets R (s ∷ p) = ap (λ (b : Bool). every (ranked R) s && b) (ranked_sets R p) ∙ sym (tests_append (ranked R) s (flatten p))

-- WHAT IS ASKED of a book by its ranks

-- o is the ranks of a book p
module _ (p : Book) (o : Option Ranks) (is : o ≡ ranks_if (place_book 0 p unranked)) where
  pub once_asked : is_some o ≡ once_by_ranks p
  unfolding ranks_if once_by_ranks
  once_asked = ap (λ (x : Option Ranks). is_some {T = Ranks} x) is ∙ go (place_book 0 p unranked).new
    where
      go : (n : Bool) → is_some {T = Ranks} (cond n (Some (record { 0 = (place_book 0 p unranked).ranks })) None) ≡ n
      go true = refl
      go false = refl

  there_if : once_by_ranks p ≡ true → o ≡ Some (record { 0 = ranks_of p })
  unfolding ranks_if once_by_ranks ranks_of
  there_if e = is ∙ rw e refl

  pub some_asked : (R : Ranks) → o ≡ Some R → (f : List ℕ → Bool) → f R.0 ≡ (once_by_ranks p && f (ranks_of p))
  unfolding ranks_if once_by_ranks ranks_of
  some_asked R e f = go (place_book 0 p unranked).new (place_book 0 p unranked).ranks (sym e ∙ is)
    where
      go : (n : Bool) (Q : List ℕ) → Some R ≡ cond n (Some (record { 0 = Q })) None → f R.0 ≡ (n && f Q)
      go true Q h = let g : R ≡ record { 0 = Q } = cc in ap (λ (r : Ranks). f r.0) g
      go false Q h = cc

  pub none_asked : o ≡ None → (b : Bool) → false ≡ (once_by_ranks p && b)
  unfolding ranks_if once_by_ranks
  none_asked e b = go (place_book 0 p unranked).new (sym e ∙ is)
    where
      go : (n : Bool) → ◌≡◌ {A = Option Ranks} None (cond n (Some (record { 0 = (place_book 0 p unranked).ranks })) None) → false ≡ (n && b)
      go true h = cc
      go false h = refl

-- a panel agrees with others, at which no message comes twice
pub agree_all : (ms : List Name) (R : List ℕ) (ps : List Book) → every once_by_ranks ps ≡ true
    → every (λ p. once_by_ranks p && ranks_agree ms R (ranks_of p)) ps ≡ agree_with ms R ps
unfolding agree_with
agree_all ms R ps e = every_both once_by_ranks (λ p. ranks_agree ms R (ranks_of p)) ps ∙ ap (λ (b : Bool). b && every (λ p. ranks_agree ms R (ranks_of p)) ps) e

-- what is left of all books, the panels passed agreeing with those after them
pub record Remaining (ms : List Name) (all left : List Book) : Type 0 where
  pub once : every once_by_ranks left ≡ true
  pub agree : agree_by_ranks ms all ≡ agree_by_ranks ms left

module _ (ms : List Name) (all left : List Book) (inv : Remaining ms all left) where
  pub agree_end : left ≡ [] → true ≡ agree_by_ranks ms all
  unfolding agree_by_ranks
  agree_end e = sym (inv.agree ∙ ap (agree_by_ranks ms) e)

  -- the next book, and what is known of its ranks
  module _ (p : Book) (rest : List Book) (next : left ≡ p ∷ rest) (o : Option Ranks) (is : o ≡ ranks_if (place_book 0 p unranked)) where
    both_once : (once_by_ranks p && every once_by_ranks rest) ≡ true
    unfolding every
    both_once = ap (every once_by_ranks) (sym next) ∙ inv.once

    there : o ≡ Some (record { 0 = ranks_of p })
    there = there_if p o is (and_left (once_by_ranks p) _ both_once)

    pub agree_none : o ≡ None → ⊥
    agree_none e = let n : Option Ranks = None in let f : n ≡ Some (record { 0 = ranks_of p }) = sym e ∙ there in cc

    module _ (R : Ranks) (some : o ≡ Some R) (b : Bool) (with : every once_by_ranks rest ≡ true → b ≡ agree_with ms R.0 rest) where
      ranks_are : R.0 ≡ ranks_of p
      ranks_are = let f : Some R ≡ Some (record { 0 = ranks_of p }) = sym some ∙ there in let g : R ≡ record { 0 = ranks_of p } = cc in ap (λ (r : Ranks). r.0) g

      answer : b ≡ agree_with ms (ranks_of p) rest
      answer = with (and_right (once_by_ranks p) _ both_once) ∙ ap (λ (r : List ℕ). agree_with ms r rest) ranks_are

      turned : agree_by_ranks ms all ≡ (agree_with ms (ranks_of p) rest && agree_by_ranks ms rest)
      unfolding agree_by_ranks
      turned = inv.agree ∙ ap (agree_by_ranks ms) next

      pub agree_stop : b ≡ false → false ≡ agree_by_ranks ms all
      agree_stop e = sym (turned ∙ ap (λ (x : Bool). x && agree_by_ranks ms rest) (sym answer ∙ e))

      pub agree_go : b ≡ true → Remaining ms all rest
      agree_go e = record { once = and_right (once_by_ranks p) _ both_once; agree = turned ∙ ap (λ (x : Bool). x && agree_by_ranks ms rest) (sym answer ∙ e) }

-- The set applied is closed, contains every closed set, and is the only set with both: for every table, well formed or not.
-- Line 16's own loop, which removes one message at a time in any order, ends in it too: `removals_largest`. Assumes nothing.
use mathlib.Core.Path.{◌≡◌, refl, sym, ◌∙◌}
use mathlib.Core.Logic.{◌≢◌, ◌↔◌}
use mathlib.Core.Bool.{Bool, true, false, not, ◌&&◌, ◌||◌, true≢false, false≢true}
use mathlib.Core.List.{List, [], ◌∷◌}
use Prim.Native.Nat.{ℕ, zero, suc, min, ◌+◌, ◌*◌, ◌≤◌, ◌<◌}
use native.Mathlib.Omega.{arith}
use native.Mathlib.Decide.{ℕ_discrete}
use lib.ListN.{length, get_or, set, length-set}
use lib.Seq.{ext_get_or, get_or-set_same, get_or-set_other}
use lib.Dec.{eqb, leb, ltb}
use borrow.Author.Tests.{eqb-true, eqb-false, ltb-true, leb-true, le-ltb, le-leb}
use Rattle.lists.specs.Below.{count, Within}
use Rattle.lists.specs.Build.{tabulate_from, tabulate}
use Rattle.lists.proofs.Tests.{cond_case, and_left, and_right, both, bool_eq, contradiction}
use Rattle.lists.proofs.Below.{all-at, all_of, count_le, count_eq, count_pos, count_none, count_bound, apart_count}
use Rattle.lists.proofs.Build.{length-tabulate, get_d_tabulate}
use Rattle.model.specs.Tables.{seats, capacity, absent, in_buffer, entry, mark}
use Rattle.model.specs.Delivery.{Slots, has, majority, mark_count, goes_before}
use Rattle.model.specs.Rounds.{clears, round, settle, largest, applicable}
use Rattle.model.specs.Largest.{Closed, Largest, Reached, candidates, removal, candidate, precedes}
use Rattle.model.specs.declared.Pending.{Pending}

module _ (N : ℕ) (held fit : ℕ → Bool) (before : ℕ → ℕ → Bool) where
  -- the test of one pair, and what it says
  keep_true : (a b c : Bool) → (a || (not b || c)) ≡ true → b ≡ true → a ≡ false → c ≡ true
  keep_true true b c e p q = absurd (true≢false q)
  keep_true false true c e p q = e
  keep_true false false c e p q = absurd (false≢true p)

  keep_of : (a b c : Bool) → (b ≡ true → a ≡ false → c ≡ true) → (a || (not b || c)) ≡ true
  keep_of true b c f = refl
  keep_of false true c f = f refl refl
  keep_of false false c f = refl

  clears-at : (S : Slots) (s : ℕ) → clears N held fit before S s ≡ true → (t : ℕ) → t < N → held t ≡ true → has S t ≡ false → before s t ≡ true
  unfolding clears
  clears-at S s e t h = keep_true (has S t) (held t) (before s t) (all-at N _ e t h)

  has-round : (S : Slots) (s : ℕ) → s < N → has (round N held fit before S) s ≡ (has S s && clears N held fit before S s)
  unfolding round
  has-round S s h = get_d_tabulate N _ false s h

  round_within : (S : Slots) → Within N (has (round N held fit before S)) (has S)
  round_within S s h e = and_left (has S s) _ (sym (has-round S s h) ∙ e)

  outside : (S R : Slots) → Within N (has R) (has S) → (t : ℕ) → t < N → has S t ≡ false → has R t ≡ false
  outside S R w t h q = go (has R t) refl
    where
      go : (b : Bool) → has R t ≡ b → has R t ≡ false
      go true e = contradiction (w t h e) q
      go false e = e

  -- a round keeps the members of a closed set
  round_contains : (S R : Slots) → Closed N held fit before R → Within N (has R) (has S) → Within N (has R) (has (round N held fit before S))
  unfolding clears
  round_contains S R c w s h e =
      has-round S s h ∙ both (w s h e)
      (all_of N _ (λ t ht. keep_of (has S t) (held t) (before s t) (λ p q. c.first s t h ht e p (outside S R w t ht q))))

  -- a set all of whose members may be chosen
  abbrev pub Fit : Slots → Type 0
  Fit S = Within N (has S) (λ s. held s && fit s)

  -- what a round leaves as it was is closed
  stable_closed : (S : Slots) → Fit S → count N (has (round N held fit before S)) ≡ count N (has S) → Closed N held fit before S
  stable_closed S f e = record {
    chosen = f;
    first = λ s t hs ht m.
        clears-at S s (and_right (has S s) _ (sym (has-round S s hs) ∙ count_eq N (has (round N held fit before S)) (has S) (round_within S) e s hs m)) t ht;
  }

  settle_closed : (k : ℕ) (S : Slots) → count N (has S) ≤ k → Fit S → Closed N held fit before (settle N held fit before k S)
  unfolding settle
  settle_closed zero S le f = record {
    chosen = f;
    first = λ s t hs ht m. absurd (omega (arith, count_pos N (has S) s hs m));
  }
  settle_closed (suc k) S le f =
      cond_case (Closed N held fit before) (eqb (count N (has (round N held fit before S))) (count N (has S))) S _
      (λ e. stable_closed S f (eqb-true _ _ e))
      (λ e. settle_closed k (round N held fit before S)
      (omega (arith, count_le N (has (round N held fit before S)) (has S) (round_within S), eqb-false (count N (has (round N held fit before S))) (count N (has S)) e))
      (λ s h m. f s h (round_within S s h m)))

  settle_contains : (R : Slots) → Closed N held fit before R → (k : ℕ) (S : Slots) → Within N (has R) (has S) → Within N (has R) (has (settle N held fit before k S))
  unfolding settle
  settle_contains R c zero S w = w
  settle_contains R c (suc k) S w =
      cond_case (λ X. Within N (has R) (has X)) (eqb (count N (has (round N held fit before S))) (count N (has S))) S _
      (λ _. w) (λ _. settle_contains R c k (round N held fit before S) (round_contains S R c w))

  settle-size : (k : ℕ) (S : Slots) → length S ≡ N → length (settle N held fit before k S) ≡ N
  unfolding settle round
  settle-size zero S e = e
  settle-size (suc k) S e =
      cond_case (λ X. length X ≡ N) (eqb (count N (has (round N held fit before S))) (count N (has S))) S _
      (λ _. e) (λ _. settle-size k (round N held fit before S) (length-tabulate N _))

  pub largest_is : Largest N held fit before (largest N held fit before)
  unfolding largest
  largest_is = record {
    size = settle-size N _ (length-tabulate N _);
    closed = settle_closed N _ (count_bound N _) (λ s h m. sym (get_d_tabulate N _ false s h) ∙ m);
    contains = λ R c. settle_contains R c N _ (λ s h m. get_d_tabulate N _ false s h ∙ c.chosen s h m);
  }

  pub largest_unique : (S R : Slots) → Largest N held fit before S → Largest N held fit before R → S ≡ R
  largest_unique S R p q =
      ext_get_or false S R (p.size ∙ sym q.size)
      (λ s h. let hn : s < N = rw p.size at h in bool_eq (has S s) (has R s) (q.contains S p.closed s hn) (p.contains R q.closed s hn))

  -- THE LOOP OF LINE 16

  reached_size : {S : Slots} → Reached N held fit before S → length S ≡ N
  reached_size candidates = length-tabulate N _
  reached_size (removal {S = S} s t hs ht m h q b r) = length-set S s false ∙ reached_size r

  -- a removal leaves what was there and is not the one removed
  removed_other : (S : Slots) (s k : ℕ) → k ≢ s → has (set S s false) k ≡ has S k
  removed_other S s k d = get_or-set_other S s k false false d

  reached_fit : {S : Slots} → Reached N held fit before S → Fit S
  reached_fit candidates s h m = sym (get_d_tabulate N _ false s h) ∙ m
  reached_fit (removal {S = S} s t hs ht m h q b r) k l e = go (ℕ_discrete k s) (λ m'. reached_fit r k l m')
    where
      go : Dec (k ≡ s) → (has S k ≡ true → (held k && fit k) ≡ true) → (held k && fit k) ≡ true
      go (yes p) f = contradiction e (rw p (get_or-set_same S s false false (omega (arith, reached_size r))))
      go (no p) f = f (sym (removed_other S s k p) ∙ e)

  reached_contains : {S : Slots} → Reached N held fit before S → (R : Slots) → Closed N held fit before R → Within N (has R) (has S)
  reached_contains candidates R c s h m = get_d_tabulate N _ false s h ∙ c.chosen s h m
  reached_contains (removal {S = S} s t hs ht m h q b r) R c k l e = go (ℕ_discrete k s) (λ k' l' e'. reached_contains r R c k' l' e')
    where
      go : Dec (k ≡ s) → Within N (has R) (has S) → has (set S s false) k ≡ true
      go (yes p) w = contradiction (c.first s t hs ht (rw p at e) h (outside S R w t ht q)) b
      go (no p) w = removed_other S s k p ∙ w k l e

  -- where nothing is left to remove, the loop has found the largest set
  pub removals_largest : {S : Slots} → Reached N held fit before S
      → ((s t : ℕ) → s < N → t < N → has S s ≡ true → held t ≡ true → has S t ≡ false → before s t ≡ true)
      → Largest N held fit before S
  removals_largest r f = record { size = reached_size r; closed = record { chosen = reached_fit r; first = f }; contains = reached_contains r }

-- THE SET THAT A CONTROLLER APPLIES

module _ (n : ℕ) (P : List Pending) where
  pub applicable-largest : Largest capacity (in_buffer P) (candidate n P) (precedes n P) (applicable n P)
  unfolding applicable
  applicable-largest = largest_is capacity (in_buffer P) (candidate n P) (precedes n P)

  pub applicable_unique : (S : Slots) → Largest capacity (in_buffer P) (candidate n P) (precedes n P) S → S ≡ applicable n P
  applicable_unique S l = largest_unique capacity (in_buffer P) (candidate n P) (precedes n P) S (applicable n P) l applicable-largest

  -- what is applied was in the buffer
  pub applicable-held : (s : ℕ) → s < capacity → has (applicable n P) s ≡ true → in_buffer P s ≡ true
  applicable-held s h m = and_left (in_buffer P s) (candidate n P s) (applicable-largest.closed.chosen s h m)

-- MAJORITIES

-- lines 15 and 16 ask for more than n/2: that is at least a majority, for every n
pub majority_half : (n k : ℕ) → (majority n ≤ k) ↔ (n < 2 * k)
unfolding majority
majority_half n k = ((λ h. omega arith), (λ h. omega arith))

-- 1, 2, 2, 3, 3, 4, 4 for n from 1 to 7, and 1 for none
pub majority_listed : (n : ℕ) → n ≤ 7 → majority n ≡ get_or (1 ∷ 1 ∷ 2 ∷ 2 ∷ 3 ∷ 3 ∷ 4 ∷ 4 ∷ []) n 0
unfolding majority tabulate tabulate_from
majority_listed n h = sym (get_d_tabulate 8 majority 0 n (omega arith))

-- twice a majority is more than all, for every table
pub majority_more : (n : ℕ) → min n seats < majority n + majority n
unfolding majority
majority_more n = omega arith

-- THE COUNT OF "GOES BEFORE"

-- it is from 0 to n
pub before_bound : (n : ℕ) (p q : Pending) → goes_before n p q ≤ n
unfolding goes_before
before_bound n p q = let h : goes_before n p q ≤ min n seats = count_bound (min n seats) _ in omega arith

-- a message against itself counts 0
pub before_itself : (n : ℕ) (p : Pending) → goes_before n p p ≡ 0
unfolding goes_before
before_itself n p = count_none (min n seats) _ (λ f _. le-ltb (mark p f) (mark p f) (omega arith))

-- no controller puts each of two messages first: the counts of both directions add up to at most n
pub before_both : (n : ℕ) (p q : Pending) → goes_before n p q + goes_before n q p ≤ n
unfolding goes_before
before_both n p q =
    let h : goes_before n p q + goes_before n q p ≤ min n seats = apart_count (min n seats) _ _
    (λ f _ x y. omega (arith, ltb-true (mark p f) (mark q f) x, ltb-true (mark q f) (mark p f) y)) in
    omega arith

-- line 16 asks whether more than n/2 controllers put s first: that is the count against the majority
pub precedes-count : (n : ℕ) (P : List Pending) (s t : ℕ) → (precedes n P s t ≡ true) ↔ (n < 2 * goes_before n (entry P s) (entry P t))
precedes-count n P s t =
    let h = majority_half n (goes_before n (entry P s) (entry P t)) in
    ((λ e. h.0 (leb-true (majority n) _ e)), (λ l. le-leb (majority n) _ (h.1 l)))

-- two majorities meet, so two messages do not each go before the other
pub not_both_before : (n : ℕ) (p q : Pending) → majority n ≤ goes_before n p q → majority n ≤ goes_before n q p → ⊥
not_both_before n p q e f = omega (arith, (majority_half n (goes_before n p q)).0 e, (majority_half n (goes_before n q p)).0 f, before_both n p q)

-- the set, said of the marks alone
pub applicable_marks : (n : ℕ) (P : List Pending)
    → applicable n P
    ≡ largest capacity (in_buffer P) (λ s. leb (majority n) (count (min n seats) (λ f. ltb (mark (entry P s) f) absent)))
    (λ s t. leb (majority n) (count (min n seats) (λ f. ltb (mark (entry P s) f) (mark (entry P t) f))))
unfolding applicable mark_count goes_before
applicable_marks n P = refl

-- What chains over a list compute, by the numbers below its length: `count`, `all` and `sum` of Below.antt. Assumes nothing.
-- Each for the first n elements (`take n`), which may be all of them; the elements are read with a default, as `get_or xs k d`.
use native.Mathlib.Omega.{arith}
use mathlib.Core.Path.{◌≡◌, refl, sym, ap, ap₂, ◌∙◌}
use mathlib.Core.Bool.{Bool, true, false, ◌&&◌, ◌||◌}
use mathlib.Core.List.{List}
use Prim.Native.Nat.{ℕ, zero, suc, ◌+◌, min, ◌≤◌, ◌<◌}
use lib.Dec.{ltb}
use borrow.Author.Tests.{lt-ltb}
use lib.ListN.{length, get_or, take, length-take}
use Rattle.std.specs.Int.{from_bool}
use Rattle.std.specs.List.{filter, count_by, sum_by, list_all, list_any, zip, enumerate_from}
use Rattle.std.proofs.lemmas.List.{take_all, get_or-take, get_or_default}
use Rattle.std.proofs.lemmas.List.Sums.{length-filter, sum_by_more, count_by_more_yes, count_by_more_no}
use Rattle.std.proofs.lemmas.List.Folds.{list_all_more, list_any_more}
use Rattle.std.proofs.lemmas.List.FromFn.{length-enumerate_from, get_or-enumerate_from}
use Rattle.std.proofs.lemmas.Slice.Zip.{length-zip, get_or-zip}
use Rattle.lists.specs.Below.{tally, count, all, sum}

one_more : (n : ℕ) → suc n ≡ n + 1
one_more n = omega arith

counted_more : {A : Type 0} (q : A → Bool) (xs : List A) (n : ℕ) (d : A) → n < length xs → (b : Bool) → q (get_or xs n d) ≡ b → count_by q (take (n + 1) xs) ≡ tally b (count_by q (take n xs))
counted_more q xs n d l true e = let on = one_more (count_by q (take n xs)) in count_by_more_yes q xs n d l e ∙ sym on
counted_more q xs n d l false e = count_by_more_no q xs n d l e

and_swap : (a b : Bool) → (a && b) ≡ (b && a)
and_swap true true = refl
and_swap true false = refl
and_swap false true = refl
and_swap false false = refl

some_more : (b : Bool) (c : ℕ) → (ltb 0 c || b) ≡ ltb 0 (tally b c)
some_more true c = or_true (ltb 0 c) ∙ sym (lt-ltb 0 (suc c) (omega arith))
  where
    or_true : (a : Bool) → (a || true) ≡ true
    or_true true = refl
    or_true false = refl
some_more false c = or_none (ltb 0 c)
  where
    or_none : (a : Bool) → (a || false) ≡ a
    or_none true = refl
    or_none false = refl

flags_sum : (n : ℕ) (p : ℕ → Bool) → sum n (λ k. from_bool (p k)) ≡ count n p
unfolding sum count
flags_sum zero p = refl
flags_sum (suc n) p = go (p n) (flags_sum n p)
  where
    go : (b : Bool) {x c : ℕ} → x ≡ c → x + from_bool b ≡ tally b c
    go true e = omega arith
    go false e = omega arith

module _ {A : Type 0} (xs : List A) (d : A) where
  -- how many of the first n pass
  pub counted : (q : A → Bool) (p : ℕ → Bool) (n : ℕ) → n ≤ length xs → ((k : ℕ) → k < n → q (get_or xs k d) ≡ p k) → count_by q (take n xs) ≡ count n p
  unfolding count
  counted q p zero b h = refl
  counted q p (suc n) b h =
      ap (λ m. count_by q (take m xs)) (one_more n) ∙ counted_more q xs n d (omega arith) (p n) (h n (omega arith))
      ∙ ap (tally (p n)) (counted q p n (omega arith) (λ k l. h k (omega arith)))

  -- whether each of the first n passes
  pub every_one : (q : A → Bool) (p : ℕ → Bool) (n : ℕ) → n ≤ length xs → ((k : ℕ) → k < n → q (get_or xs k d) ≡ p k) → list_all q (take n xs) ≡ all n p
  unfolding all
  every_one q p zero b h = refl
  every_one q p (suc n) b h =
      ap (λ m. list_all q (take m xs)) (one_more n) ∙ list_all_more q xs n d (omega arith)
      ∙ ap₂ ◌&&◌ (every_one q p n (omega arith) (λ k l. h k (omega arith))) (h n (omega arith)) ∙ and_swap (all n p) (p n)

  -- whether one of the first n passes
  pub some : (q : A → Bool) (p : ℕ → Bool) (n : ℕ) → n ≤ length xs → ((k : ℕ) → k < n → q (get_or xs k d) ≡ p k) → list_any q (take n xs) ≡ ltb 0 (count n p)
  unfolding count
  some q p zero b h = refl
  some q p (suc n) b h =
      ap (λ m. list_any q (take m xs)) (one_more n) ∙ list_any_more q xs n d (omega arith)
      ∙ ap₂ ◌||◌ (some q p n (omega arith) (λ k l. h k (omega arith))) (h n (omega arith)) ∙ some_more (p n) (count n p)

  -- the sum over the first n
  pub summed : (f : A → ℕ) (g : ℕ → ℕ) (n : ℕ) → n ≤ length xs → ((k : ℕ) → k < n → f (get_or xs k d) ≡ g k) → sum_by f (take n xs) ≡ sum n g
  unfolding sum
  summed f g zero b h = refl
  summed f g (suc n) b h =
      ap (λ m. sum_by f (take m xs)) (one_more n) ∙ sum_by_more f xs n d (omega arith)
      ∙ ap₂ ◌+◌ (summed f g n (omega arith) (λ k l. h k (omega arith))) (h n (omega arith))

-- What a list reads: it has m elements, and f k is the one at place k. A chain's list is put together of these, as its adapters are:
-- `reads_count q p (reads_take n j (reads_zip a b ..) ..) ..`.
pub record Reads {A : Type 0} (xs : List A) (m : ℕ) (f : ℕ → A) : Type 0 where
  pub long : length xs ≡ m
  pub reads : (k : ℕ) (d : A) → k < m → get_or xs k d ≡ f k

module _ {A : Type 0} where
  -- a list by its own elements, read with a default
  pub reads_list : (xs : List A) (d : A) (m : ℕ) → length xs ≡ m → Reads xs m (λ k. get_or xs k d)
  reads_list xs d m e = record { long = e; reads = λ k c l. get_or_default xs k c d (omega arith) }

  -- `take(n)`
  pub reads_take : (n : ℕ) {xs : List A} {m j : ℕ} {f : ℕ → A} → Reads xs m f → j ≡ min n m → Reads (take n xs) j f
  reads_take n {xs} r e = record { long = length-take n xs ∙ ap (min n) r.long ∙ sym e; reads = λ k d l. get_or-take n xs k d (omega arith) ∙ r.reads k d (omega arith) }

  -- `zip`
  pub reads_zip : {B : Type 0} {xs : List A} {ys : List B} {m n j : ℕ} {f : ℕ → A} {g : ℕ → B} → Reads xs m f → Reads ys n g → j ≡ min m n → Reads {A = A × B} (zip xs ys) j (λ k. (f k, g k))
  reads_zip {B} {xs} {ys} {m} {n} {j} {f} {g} r s e = record {
    long = omega (arith, length-zip xs ys, r.long, s.long);
    reads = λ k d l. get_or-zip xs ys k d (omega (arith, r.long)) (omega (arith, s.long)) ∙ (λ i. (r.reads k d.0 (omega arith) i, s.reads k d.1 (omega arith) i));
  }

  -- `enumerate`
  pub reads_enumerated : {xs : List A} {m : ℕ} {f : ℕ → A} → Reads xs m f → Reads {A = ℕ × A} (enumerate_from 0 xs) m (λ k. (k, f k))
  reads_enumerated {xs} {m} {f} r = record {
    long = length-enumerate_from 0 xs ∙ r.long;
    reads = λ k d l. get_or-enumerate_from 0 xs k d (omega (arith, r.long)) ∙ (λ i. (none k i, r.reads k d.1 l i));
  }
    where
      none : (k : ℕ) → 0 + k ≡ k
      none k = omega arith

  module _ {xs : List A} {m : ℕ} {f : ℕ → A} where
    all_of_it : Reads xs m f → take m xs ≡ xs
    all_of_it r = take_all m xs (omega (arith, r.long))

    -- `filter(q).count()`
    pub reads_count : (q : A → Bool) (p : ℕ → Bool) → Reads xs m f → ((k : ℕ) → k < m → q (f k) ≡ p k) → count_by q xs ≡ count m p
    reads_count q p r h = ap (count_by q) (sym (all_of_it r)) ∙ counted xs (f 0) q p m (omega (arith, r.long)) (λ k l. ap q (r.reads k (f 0) l) ∙ h k l)

    -- the same, as `count` gives it
    pub reads_filtered : (q : A → Bool) (p : ℕ → Bool) → Reads xs m f → ((k : ℕ) → k < m → q (f k) ≡ p k) → length (filter q xs) ≡ count m p
    reads_filtered q p r h = length-filter q xs ∙ reads_count q p r h

    -- `all(q)`
    pub reads_all : (q : A → Bool) (p : ℕ → Bool) → Reads xs m f → ((k : ℕ) → k < m → q (f k) ≡ p k) → list_all q xs ≡ all m p
    reads_all q p r h = ap (list_all q) (sym (all_of_it r)) ∙ every_one xs (f 0) q p m (omega (arith, r.long)) (λ k l. ap q (r.reads k (f 0) l) ∙ h k l)

    -- `any(q)`
    pub reads_some : (q : A → Bool) (p : ℕ → Bool) → Reads xs m f → ((k : ℕ) → k < m → q (f k) ≡ p k) → list_any q xs ≡ ltb 0 (count m p)
    reads_some q p r h = ap (list_any q) (sym (all_of_it r)) ∙ some xs (f 0) q p m (omega (arith, r.long)) (λ k l. ap q (r.reads k (f 0) l) ∙ h k l)

    -- `map(h).sum()`
    pub reads_sum : (h : A → ℕ) (g : ℕ → ℕ) → Reads xs m f → ((k : ℕ) → k < m → h (f k) ≡ g k) → sum_by h xs ≡ sum m g
    reads_sum h g r e = ap (sum_by h) (sym (all_of_it r)) ∙ summed xs (f 0) h g m (omega (arith, r.long)) (λ k l. ap h (r.reads k (f 0) l) ∙ e k l)

    -- the same, where h is 1 at what passes and 0 at the rest
    pub reads_flags : (h : A → ℕ) (p : ℕ → Bool) → Reads xs m f → ((k : ℕ) → k < m → h (f k) ≡ from_bool (p k)) → sum_by h xs ≡ count m p
    reads_flags h p r e = reads_sum h (λ k. from_bool (p k)) r e ∙ flags_sum m p

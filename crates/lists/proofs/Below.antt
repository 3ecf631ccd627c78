-- Laws of `all`, `count`, `distinct`, `sum` and `greatest` over the numbers below a bound. Assumes nothing.
use mathlib.Core.Path.{◌≡◌, refl, sym, ap, ap₂, subst, ◌∙◌}
use mathlib.Core.Bool.{Bool, true, false, not, ◌||◌, false≢true}
use mathlib.Core.Logic.{◌≢◌}
use Prim.Native.Nat.{ℕ, zero, suc, ◌+◌, ◌*◌, max, ◌≤◌, ◌<◌}
use native.Mathlib.Nat.{not-suc-le-zero}
use native.Mathlib.Numerals.{add-one}
use native.Mathlib.Omega.{arith}
use native.Mathlib.Decide.{ℕ_discrete}
use lib.Dec.{eqb, ltb}
use borrow.Author.Tests.{lt-ltb, eq-eqb, ne_eqb, not-true}
use Rattle.lists.specs.Below.{tally, count, all, Within, distinct, sum, greatest}
use Rattle.lists.proofs.Tests.{and_left, and_right, both, below_suc}

-- ALL

pub all-at : (n : ℕ) (p : ℕ → Bool) → all n p ≡ true → (k : ℕ) → k < n → p k ≡ true
unfolding all
all-at zero p e k h = absurd (not-suc-le-zero h)
all-at (suc n) p e k h = below_suc (λ j. p j ≡ true) n (and_left (p n) (all n p) e) (all-at n p (and_right (p n) (all n p) e)) k h

pub all_of : (n : ℕ) (p : ℕ → Bool) → ((k : ℕ) → k < n → p k ≡ true) → all n p ≡ true
unfolding all
all_of zero p f = refl
all_of (suc n) p f = both (f n (omega arith)) (all_of n p (λ k h. f k (omega arith)))

-- DISTINCT

pub distinct-at : (n : ℕ) (same : ℕ → ℕ → Bool) → distinct n same ≡ true → (i j : ℕ) → i < n → j < i → same i j ≡ false
unfolding distinct
distinct-at n same e i j h l = not-true (same i j) (all-at i _ (all-at n _ e i h) j l)

pub distinct_of : (n : ℕ) (same : ℕ → ℕ → Bool) → ((i j : ℕ) → i < n → j < i → same i j ≡ false) → distinct n same ≡ true
unfolding distinct
distinct_of n same f = all_of n _ (λ i h. all_of i _ (λ j l. ap not (f i j h l)))

-- COUNT

-- a tally is a sum, so that arithmetic can tell the rest
pub tally-plus : (b : Bool) (k : ℕ) → tally b k ≡ tally b 0 + k
tally-plus true k = omega arith
tally-plus false k = omega arith

tally_le : (a b : Bool) (x y : ℕ) → (a ≡ true → b ≡ true) → x ≤ y → tally a x ≤ tally b y
tally_le true true x y f h = omega arith
tally_le true false x y f h = absurd (false≢true (f refl))
tally_le false true x y f h = omega arith
tally_le false false x y f h = h

pub count_le : (n : ℕ) (p q : ℕ → Bool) → Within n p q → count n p ≤ count n q
unfolding count
count_le zero p q f = omega arith
count_le (suc n) p q f = tally_le (p n) (q n) (count n p) (count n q) (f n (omega arith)) (count_le n p q (λ k h. f k (omega arith)))

tally_eq : (a b : Bool) (x y : ℕ) → (a ≡ true → b ≡ true) → x ≤ y → tally a x ≡ tally b y → (b ≡ true → a ≡ true) × (x ≡ y)
tally_eq true true x y f h e = ((λ _. refl), omega arith)
tally_eq true false x y f h e = absurd (false≢true (f refl))
tally_eq false true x y f h e = absurd (omega arith)
tally_eq false false x y f h e = ((λ z. z), e)

-- as many: then the second implies the first
pub count_eq : (n : ℕ) (p q : ℕ → Bool) → Within n p q → count n p ≡ count n q → Within n q p
unfolding count
count_eq zero p q f e k h = absurd (not-suc-le-zero h)
count_eq (suc n) p q f e k h =
    let g : Within n p q = λ k h. f k (omega arith) in
    let r = tally_eq (p n) (q n) (count n p) (count n q) (f n (omega arith)) (count_le n p q g) e in
    below_suc (λ j. q j ≡ true → p j ≡ true) n r.0 (count_eq n p q g r.1) k h

pub count_ext : (n : ℕ) (p q : ℕ → Bool) → ((k : ℕ) → k < n → p k ≡ q k) → count n p ≡ count n q
unfolding count
count_ext zero p q f = refl
count_ext (suc n) p q f = ap₂ tally (f n (omega arith)) (count_ext n p q (λ k h. f k (omega arith)))

tally_pos : (b : Bool) (x : ℕ) → b ≡ true → 0 < tally b x
tally_pos true x e = omega arith
tally_pos false x e = absurd (false≢true e)

-- a test that passes somewhere counts
pub count_pos : (n : ℕ) (p : ℕ → Bool) (k : ℕ) → k < n → p k ≡ true → 0 < count n p
unfolding count
count_pos zero p k h = absurd (not-suc-le-zero h)
count_pos (suc n) p k h =
    below_suc (λ j. p j ≡ true → 0 < tally (p n) (count n p)) n (tally_pos (p n) (count n p))
    (λ j hj e. omega (arith, count_pos n p j hj e, tally-plus (p n) (count n p))) k h

-- a number below n that passes
pub record Found (n : ℕ) (p : ℕ → Bool) : Type 0 where
  pub which : ℕ
  pub below : which < n
  pub passes : p which ≡ true

-- what counts passes somewhere
pub count-found : (n : ℕ) (p : ℕ → Bool) → 0 < count n p → Found n p
unfolding count
count-found zero p h = absurd (omega arith)
count-found (suc n) p h = go (p n) refl (count n p) h (λ l. count-found n p l)
  where
    go : (b : Bool) → p n ≡ b → (c : ℕ) → 0 < tally b c → (0 < c → Found n p) → Found (suc n) p
    go true e c h r = record { which = n; below = omega arith; passes = e }
    go false e c h r = let o = r h in record { which = o.which; below = omega arith; passes = o.passes }

pub count_none : (n : ℕ) (p : ℕ → Bool) → ((k : ℕ) → k < n → p k ≡ false) → count n p ≡ 0
unfolding count
count_none zero p f = refl
count_none (suc n) p f = rw (f n (omega arith)) (count_none n p (λ k h. f k (omega arith)))

pub count_bound : (n : ℕ) (p : ℕ → Bool) → count n p ≤ n
unfolding count
count_bound zero p = omega arith
count_bound (suc n) p = tally_bound (p n) (count n p) n (count_bound n p)
  where
    tally_bound : (b : Bool) (x y : ℕ) → x ≤ y → tally b x ≤ suc y
    tally_bound true x y h = omega arith
    tally_bound false x y h = omega arith

-- tests that never pass together
abbrev pub Apart : ℕ → (ℕ → Bool) → (ℕ → Bool) → Type 0
Apart n p q = (k : ℕ) → k < n → p k ≡ true → q k ≡ true → ⊥

apart_tally : (a b : Bool) (x y n : ℕ) → (a ≡ true → b ≡ true → ⊥) → x + y ≤ n → tally a x + tally b y ≤ suc n
apart_tally true true x y n f h = absurd (f refl refl)
apart_tally true false x y n f h = omega arith
apart_tally false true x y n f h = omega arith
apart_tally false false x y n f h = omega arith

pub apart_count : (n : ℕ) (p q : ℕ → Bool) → Apart n p q → count n p + count n q ≤ n
unfolding count
apart_count zero p q f = omega arith
apart_count (suc n) p q f = apart_tally (p n) (q n) (count n p) (count n q) n (f n (omega arith)) (apart_count n p q (λ k h. f k (omega arith)))

-- SUM

pub sum_ext : (n : ℕ) (f g : ℕ → ℕ) → ((k : ℕ) → k < n → f k ≡ g k) → sum n f ≡ sum n g
unfolding sum
sum_ext zero f g e = refl
sum_ext (suc n) f g e = ap₂ ◌+◌ (sum_ext n f g (λ k h. e k (omega arith))) (e n (omega arith))

pub sum-plus : (n : ℕ) (f g : ℕ → ℕ) → sum n (λ k. f k + g k) ≡ sum n f + sum n g
unfolding sum
sum-plus zero f g = refl
sum-plus (suc n) f g = omega (arith, sum-plus n f g)

pub sum_within : (n : ℕ) (f g : ℕ → ℕ) → ((k : ℕ) → k < n → f k ≤ g k) → sum n f ≤ sum n g
unfolding sum
sum_within zero f g h = omega arith
sum_within (suc n) f g h = omega (arith, sum_within n f g (λ k l. h k (omega arith)), h n (omega arith))

pub sum_bound : (n : ℕ) (f : ℕ → ℕ) (b : ℕ) → ((k : ℕ) → k < n → f k ≤ b) → sum n f ≤ n * b
unfolding sum
sum_bound zero f b h = omega arith
sum_bound (suc n) f b h = omega (arith, sum_bound n f b (λ k l. h k (omega arith)), h n (omega arith), suc-times n b)
  where
    suc-times : (n b : ℕ) → suc n * b ≡ n * b + b
    suc-times n b = native.Mathlib.Nat.suc-mul n b

-- one term is d more, the others are the same
pub sum_raised : (n : ℕ) (f g : ℕ → ℕ) (i d : ℕ) → i < n → g i ≡ f i + d → ((k : ℕ) → k < n → k ≢ i → g k ≡ f k) → sum n g ≡ sum n f + d
unfolding sum
sum_raised zero f g i d l e h = absurd (not-suc-le-zero l)
sum_raised (suc n) f g i d l e h = elim (ℕ_discrete n i) [
  | yes q ↦ omega (arith, sum_ext n g f (λ k b. h k (omega arith) (λ r. omega (arith, q, r, b))), subst (λ x. g x ≡ f x + d) (sym q) e)
  | no q ↦ omega (arith, sum_raised n f g i d (omega (arith, l, q)) e (λ k b. h k (omega arith)), h n (omega arith) q)
]

-- a last term of 0 adds nothing
pub sum_last : (n : ℕ) (f : ℕ → ℕ) → f n ≡ 0 → sum (n + 1) f ≡ sum n f
unfolding sum
sum_last n f e = rw (add-one, e) (omega arith)

-- GREATEST

pub greatest_ext : (n : ℕ) (f g : ℕ → ℕ) → ((k : ℕ) → k < n → f k ≡ g k) → greatest n f ≡ greatest n g
unfolding greatest
greatest_ext zero f g e = refl
greatest_ext (suc n) f g e = ap₂ max (greatest_ext n f g (λ k h. e k (omega arith))) (e n (omega arith))

pub greatest_ge : (n : ℕ) (f : ℕ → ℕ) (k : ℕ) → k < n → f k ≤ greatest n f
unfolding greatest
greatest_ge zero f k h = absurd (not-suc-le-zero h)
greatest_ge (suc n) f k h = below_suc (λ j. f j ≤ max (greatest n f) (f n)) n (omega arith) (λ j l. omega (arith, greatest_ge n f j l)) k h

pub greatest_le : (n : ℕ) (f : ℕ → ℕ) (b : ℕ) → ((k : ℕ) → k < n → f k ≤ b) → greatest n f ≤ b
unfolding greatest
greatest_le zero f b h = omega arith
greatest_le (suc n) f b h = omega (arith, greatest_le n f b (λ k l. h k (omega arith)), h n (omega arith))

pub greatest_last : (n : ℕ) (f : ℕ → ℕ) → f n ≡ 0 → greatest (n + 1) f ≡ greatest n f
unfolding greatest
greatest_last n f e = rw (add-one, e) (omega arith)

-- the greatest of two functions' greater values
pub greatest-max : (n : ℕ) (f g h : ℕ → ℕ) → ((k : ℕ) → k < n → h k ≡ max (f k) (g k)) → greatest n h ≡ max (greatest n f) (greatest n g)
unfolding greatest
greatest-max zero f g h e = refl
greatest-max (suc n) f g h e = omega (arith, greatest-max n f g h (λ k l. e k (omega arith)), e n (omega arith))

-- ROOM: distinct numbers below n, none of them x, which is below n too, are fewer than n

-- x, or a number that passes
plus : ℕ → (ℕ → Bool) → ℕ → Bool
plus x p j = eqb j x || p j

same_eqb : (x : ℕ) → eqb x x ≡ true
same_eqb x = eq-eqb x x refl

plus-at : (x : ℕ) (p : ℕ → Bool) → plus x p x ≡ true
unfolding plus
plus-at x p = rw (same_eqb x)

plus_else : (x : ℕ) (p : ℕ → Bool) (j : ℕ) → j ≢ x → plus x p j ≡ p j
unfolding plus
plus_else x p j d = rw (ne_eqb j x d)

count-above : (n x : ℕ) (p : ℕ → Bool) → n ≤ x → count n (plus x p) ≡ count n p
count-above n x p h = count_ext n (plus x p) p (λ k l. plus_else x p k (omega arith))

tally-suc : (b : Bool) (a c : ℕ) → a ≡ suc c → tally b a ≡ suc (tally b c)
tally-suc true a c r = ap suc r
tally-suc false a c r = r

count-plus : (n x : ℕ) (p : ℕ → Bool) → x < n → p x ≡ false → count n (plus x p) ≡ suc (count n p)
unfolding count
count-plus zero x p h e = absurd (not-suc-le-zero h)
count-plus (suc n) x p h e = go (ℕ_discrete n x) (λ l. count-plus n x p l e)
  where
    go : Dec (n ≡ x) → (x < n → count n (plus x p) ≡ suc (count n p)) → tally (plus x p n) (count n (plus x p)) ≡ suc (tally (p n) (count n p))
    go (yes q) r = rw (q, plus-at x p, e, count-above x x p (omega arith))
    go (no q) r = rw (plus_else x p n q) (tally-suc (p n) (count n (plus x p)) (count n p) (r (omega arith)))

-- f takes the value j below k
unfoldable pub taken : ℕ → (ℕ → ℕ) → ℕ → Bool
taken k f j = ltb 0 (count k (λ i. eqb (f i) j))

taken_not : (k : ℕ) (f : ℕ → ℕ) (j : ℕ) → ((i : ℕ) → i < k → f i ≢ j) → taken k f j ≡ false
unfolding taken
taken_not k f j d = rw (count_none k (λ i. eqb (f i) j) (λ i h. ne_eqb (f i) j (d i h)))

taken-suc : (k : ℕ) (f : ℕ → ℕ) (j : ℕ) → taken (suc k) f j ≡ plus (f k) (taken k f) j
unfolding taken count plus
taken-suc k f j = go (ℕ_discrete (f k) j)
  where
    go : Dec (f k ≡ j) → ltb 0 (tally (eqb (f k) j) (count k (λ i. eqb (f i) j))) ≡ plus (f k) (taken k f) j
    go (yes e) = rw (e, same_eqb j) (lt-ltb 0 (suc (count k (λ i. eqb (f i) j))) (omega arith))
    go (no d) = rw (ne_eqb (f k) j d, ne_eqb j (f k) (λ e. d (sym e)))

-- distinct numbers below n: as many are taken as there are
pub taken-count : (n k : ℕ) (f : ℕ → ℕ) → ((i : ℕ) → i < k → f i < n) → ((i j : ℕ) → i < k → j < i → f i ≢ f j) → count n (taken k f) ≡ k
taken-count n zero f b d = count_none n (taken 0 f) (λ j h. taken_not 0 f j (λ i l. absurd (not-suc-le-zero l)))
taken-count n (suc k) f b d =
    count_ext n (taken (suc k) f) (plus (f k) (taken k f)) (λ j h. taken-suc k f j)
    ∙ count-plus n (f k) (taken k f) (b k (omega arith)) (taken_not k f (f k) (λ i h e. d k i (omega arith) h (sym e)))
    ∙ ap suc (taken-count n k f (λ i h. b i (omega arith)) (λ i j h l. d i j (omega arith) l))

pub distinct_room : (n k : ℕ) (f : ℕ → ℕ) → ((i : ℕ) → i < k → f i < n) → ((i j : ℕ) → i < k → j < i → f i ≢ f j) → k ≤ n
distinct_room n k f b d = omega (arith, taken-count n k f b d, count_bound n (taken k f))

pub distinct_room_less : (n k : ℕ) (f : ℕ → ℕ) → ((i : ℕ) → i < k → f i < n) → ((i j : ℕ) → i < k → j < i → f i ≢ f j)
    → (x : ℕ) → x < n → ((i : ℕ) → i < k → f i ≢ x) → k < n
distinct_room_less n k f b d x h e =
    omega (arith, taken-count n k f b d, count-plus n x (taken k f) h (taken_not k f x e), count_bound n (plus x (taken k f)))

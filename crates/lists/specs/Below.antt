-- Counting, testing, adding and comparing over the numbers below a bound.
use Rattle.std.specs.Prelude.{ℕ, zero, suc, ◌+◌, max, ◌<◌, ◌≡◌, Bool, true, false, ◌&&◌, not}

-- one more where the test passes
abbrev pub tally : Bool → ℕ → ℕ
tally true k = suc k
tally false k = k

-- how many numbers below n pass a test
unfoldable pub count : ℕ → (ℕ → Bool) → ℕ
count zero p = 0
count (suc k) p = tally (p k) (count k p)

-- whether every number below n passes
unfoldable pub all : ℕ → (ℕ → Bool) → Bool
all zero p = true
all (suc k) p = p k && all k p

-- every number below n that passes the first test passes the second
abbrev pub Within : ℕ → (ℕ → Bool) → (ℕ → Bool) → Type 0
Within n p q = (k : ℕ) → k < n → p k ≡ true → q k ≡ true

-- whether no two numbers below n are alike
unfoldable pub distinct : ℕ → (ℕ → ℕ → Bool) → Bool
distinct n same = all n (λ i. all i (λ j. not (same i j)))

-- the sum of f over the numbers below n
unfoldable pub sum : ℕ → (ℕ → ℕ) → ℕ
sum zero f = 0
sum (suc k) f = sum k f + f k

-- the greatest of f over the numbers below n, 0 where there is none
unfoldable pub greatest : ℕ → (ℕ → ℕ) → ℕ
greatest zero f = 0
greatest (suc k) f = max (greatest k f) (f k)

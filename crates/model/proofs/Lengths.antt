-- How many names one name more makes, and none of no set; how many bytes numbers, names and lines take. Assumes nothing.
use mathlib.Core.Path.{◌≡◌, refl, ap}
use mathlib.Core.List.{List, [], ◌∷◌, ◌++◌}
use Prim.Native.Nat.{ℕ, zero, suc, ◌+◌, ◌*◌, ◌^◌, ◌≤◌, ◌<◌}
use native.Mathlib.Nat.{suc-mul}
use native.Mathlib.Omega.{arith}
use lib.ListN.{length, length-append}
use Rattle.lists.proofs.Tests.{cond_case}
use Rattle.lists.specs.Every.{Every}
use Rattle.model.specs.Tables.{messages_of}
use Rattle.model.specs.Events.{earlier, insert, names_below, names_of}
use Rattle.model.specs.Runs.{decimal, sum_fields, name_fields, line, footer}
use Rattle.model.specs.declared.Name.{Name}
use Rattle.model.specs.declared.Sums.{Sums}
use Rattle.model.specs.declared.Table.{Table}
use Rattle.model.proofs.Decimals.{decimal_bound}

-- NAMES

pub length-insert : (x : Name) (xs : List Name) → length (insert x xs) ≡ suc (length xs)
unfolding insert
length-insert x [] = refl
length-insert x (y ∷ ys) =
    cond_case (λ (r : List Name). length r ≡ suc (suc (length ys))) (earlier x y) (x ∷ y ∷ ys) (y ∷ insert x ys) (λ _. refl) (λ _. ap suc (length-insert x ys))

no_names : (k : ℕ) (t : Table) → names_below k t.messages [] ≡ []
unfolding names_below
no_names zero t = refl
no_names (suc k) t = no_names k t

pub none_named : (t : Table) → names_of (messages_of t) [] ≡ []
unfolding names_of
none_named t = no_names t.count t

-- BYTES

-- a name whose sender has at most a + 1 digits, and whose number has at most b + 1
pub record SmallName (a b : ℕ) (m : Name) : Type 0 where
  pub sender : m.sender < 10 ^ suc a
  pub number : m.number.0 < 10 ^ suc b

pub names_bound : (a b : ℕ) (ms : List Name) → Every (SmallName a b) ms → length (name_fields ms) ≤ length ms * (a + b + 4)
unfolding name_fields Every
names_bound a b [] h = omega arith
names_bound a b (m ∷ ms) h =
    omega (
      arith,
      length-append (32 ∷ decimal m.sender) ((46 ∷ decimal m.number.0) ++ name_fields ms),
      length-append (46 ∷ decimal m.number.0) (name_fields ms),
      decimal_bound a m.sender h.0.sender,
      decimal_bound b m.number.0 h.0.number,
      names_bound a b ms h.1,
      suc-mul (length ms) (a + b + 4),
    )

pub length-sums : (z : Sums) → length (sum_fields z) ≡ length (decimal z.added) + length (decimal z.withdrawn) + 2
unfolding sum_fields
length-sums z = omega (arith, length-append (32 ∷ decimal z.added) (32 ∷ decimal z.withdrawn))

pub length-line : (e c : ℕ) (z : Sums) (ms : List Name)
    → length (line e c z ms) ≡ length (decimal e) + length (decimal c) + length (sum_fields z) + length (name_fields ms) + 2
unfolding line
length-line e c z ms =
    omega (
      arith,
      length-append (decimal e) ((32 ∷ decimal c) ++ (sum_fields z ++ (name_fields ms ++ (10 ∷ [])))),
      length-append (32 ∷ decimal c) (sum_fields z ++ (name_fields ms ++ (10 ∷ []))),
      length-append (sum_fields z) (name_fields ms ++ (10 ∷ [])),
      length-append (name_fields ms) (10 ∷ []),
    )

-- the line after the listing, of numbers that are bytes and words
pub footer_bound : (e k : ℕ) → e < 2 ^ 64 → k < 256 → length (footer e k) ≤ 29
unfolding footer
footer_bound e k h l =
    omega (
      arith,
      decimal_bound 19 e (omega arith),
      decimal_bound 2 k (omega arith),
      length-append (decimal e) ((32 ∷ decimal k) ++ (10 ∷ [])),
      length-append (32 ∷ decimal k) (10 ∷ []),
    )

-- What one pass over the entries of a log tells: that each names a message of the run, and none twice. Assumes nothing.
use mathlib.Core.Path.{◌≡◌, refl}
use mathlib.Core.Bool.{Bool, true, false, and-false}
use mathlib.Core.List.{List}
use Prim.Native.Nat.{ℕ, ◌+◌, ◌≤◌, ◌<◌}
use native.Mathlib.Omega.{arith}
use lib.ListN.{get_or, set, replicate}
use lib.Dec.{eqb, ltb}
use borrow.Author.Tests.{lt-ltb, le-ltb, le-leb, lt-leb}
use Rattle.lists.specs.Below.{all}
use Rattle.lists.specs.Build.{tabulate}
use Rattle.lists.proofs.Tests.{both}
use Rattle.lists.proofs.Below.{all_of}
use Rattle.lists.proofs.Clipped.{all_failed}
use Rattle.model.specs.Tables.{capacity}
use Rattle.model.specs.Facts.{in_log}
use Rattle.model.specs.WellFormed.{good_log}
use Rattle.model.specs.declared.Controller.{Controller}
use Rattle.validity.specs.Flags.{taken}
use Rattle.validity.proofs.SeenFlags.{Read, none_read, next_read, read_twice}

module _ (k : ℕ) (c : Controller) where
  abbrev slot : ℕ → ℕ
  slot j = get_or c.log j 0

  abbrev alike : ℕ → ℕ → Bool
  alike i j = eqb (slot i) (slot j)

  -- the first j entries were read
  unfoldable pub EntriesRead : ℕ → List Bool → Type 0
  EntriesRead j logged = Read capacity slot alike (λ i. slot i < k) j logged

  pub nothing_read : EntriesRead 0 (replicate capacity false)
  unfolding EntriesRead
  nothing_read = none_read capacity slot alike (λ i. slot i < k)

  pub long_log : capacity < c.length → good_log k c ≡ false
  unfolding good_log
  long_log h = rw (lt-leb c.length capacity h)

  pub slot_outside : (j : ℕ) → j < c.length → k ≤ slot j → good_log k c ≡ false
  unfolding good_log
  slot_outside j l h = rw (← all_failed c.length (λ i. ltb (slot i) k) j l (le-ltb (slot j) k h)) (and-false _)

  module _ (fits : k ≤ capacity) (j : ℕ) (logged : List Bool) (r : EntriesRead j logged) where
    pub slot_read : slot j < k → get_or logged (slot j) false ≡ false → EntriesRead (j + 1) (set logged (slot j) true)
    unfolding EntriesRead
    slot_read h e = next_read capacity slot alike (λ i. slot i < k) j logged r (omega arith) (λ i l. refl) h e

    pub slot_twice : j < c.length → slot j < k → get_or logged (slot j) false ≡ true → good_log k c ≡ false
    unfolding EntriesRead good_log
    slot_twice l h e =
        rw (read_twice capacity slot alike (λ i. slot i < k) j logged r (omega arith) (λ i l. refl) c.length l e, and-false (all c.length (λ i. ltb (slot i) k))) (and-false _)

    pub all_entries : c.length ≤ capacity → j ≡ c.length → (good_log k c ≡ true) × (logged ≡ tabulate capacity (in_log c))
    unfolding EntriesRead good_log in_log taken
    all_entries short e =
        let all_read : Read capacity slot alike (λ i. slot i < k) c.length logged = rw e at r in
        (both (le-leb c.length capacity short) (both (all_of c.length _ (λ i h. lt-ltb (slot i) k (all_read.good i h))) all_read.apart), all_read.flags)

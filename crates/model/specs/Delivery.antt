-- Lines 15 and 16 of Algorithm 1: majorities, marks and the count of "goes before", over which Largest.antt says what set a controller applies.
use Rattle.std.specs.Prelude.{ℕ, ◌+◌, ◌/◌, min, Bool, false, List, get_or, ltb}
use Rattle.lists.specs.Below.{count}
use Rattle.model.specs.Tables.{seats, absent, mark}
use Rattle.model.specs.declared.Pending.{Pending}

-- more than half of n controllers: half of n rounded down, plus one
unfoldable pub majority : ℕ → ℕ
majority n = n / 2 + 1

-- how many of n controllers have forwarded the message, as far as is known here
unfoldable pub mark_count : ℕ → Pending → ℕ
mark_count n p = count (min n seats) (λ f. ltb (mark p f) absent)

-- "goes before": how many of n controllers have a smaller forward number for p than for q. The relation of line 16 is that a majority has.
unfoldable pub goes_before : ℕ → Pending → Pending → ℕ
goes_before n p q = count (min n seats) (λ f. ltb (mark p f) (mark q f))

-- a set of slots: a Bool for each
abbrev pub Slots : Type 0
Slots = List Bool

abbrev pub has : Slots → ℕ → Bool
has S s = get_or S s false

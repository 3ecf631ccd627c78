-- "The largest set" of RULES.md, section 8 (Apply), and the sets that the loop of line 16 reaches. That `Rounds.applicable` is this set, that
-- there is no other, and that the loop ends in it whatever it removes first: proofs/Largest.antt.
use Rattle.std.specs.Prelude.{◌≡◌, Bool, true, false, ◌&&◌, List, ℕ, ◌<◌, length, set, leb}
use Rattle.lists.specs.Below.{Within}
use Rattle.lists.specs.Build.{tabulate}
use Rattle.model.specs.Tables.{entry}
use Rattle.model.specs.Delivery.{Slots, has, majority, mark_count, goes_before}
use Rattle.model.specs.declared.Pending.{Pending}

-- Over N slots: `held` are those pending, `fit` those with at least m marks, and `before` is the relation of line 16.
module _ (N : ℕ) (held fit : ℕ → Bool) (before : ℕ → ℕ → Bool) where
  -- "sets of pending messages in which each has at least m marks, and in which each member goes before each pending non-member"
  pub record Closed (S : Slots) : Type 0 where
    pub chosen : (s : ℕ) → s < N → has S s ≡ true → (held s && fit s) ≡ true
    pub first : (s t : ℕ) → s < N → t < N → has S s ≡ true → held t ≡ true → has S t ≡ false → before s t ≡ true

  -- "of all sets .., take the largest": one of them that contains each of them
  pub record Largest (S : Slots) : Type 0 where
    pub size : length S ≡ N
    pub closed : Closed S
    pub contains : (R : Slots) → Closed R → Within N (has R) (has S)

  -- The loop of line 16 begins with the candidates of line 15, and removes a member that does not go before some pending non-member.
  pub data Reached : Slots → Type 0 where
    candidates : Reached (tabulate N (λ s. held s && fit s))
    removal : {S : Slots} (s t : ℕ) → s < N → t < N → has S s ≡ true → held t ≡ true → has S t ≡ false → before s t ≡ false
        → Reached S → Reached (set S s false)

-- The same for a controller of n with buffer P.
module _ (n : ℕ) (P : List Pending) where
  abbrev pub candidate : ℕ → Bool
  candidate s = leb (majority n) (mark_count n (entry P s))

  abbrev pub precedes : ℕ → ℕ → Bool
  precedes s t = leb (majority n) (goes_before n (entry P s) (entry P t))

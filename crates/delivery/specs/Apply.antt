-- What `apply` answers and leaves, for a scratch area of any length, and which slots its first 64 bytes name meanwhile.
use Rattle.std.specs.Prelude.{◌≡◌, false, not, ◌&&◌, cond, List, ℕ, ◌+◌, ◌-◌, ◌≤◌, ◌<◌, length, get_or, replicate, eqb, leb, ltb}
use Rattle.lists.specs.Below.{tally, count}
use Rattle.lists.specs.Build.{tabulate}
use Rattle.model.specs.Tables.{capacity, scratch_size, in_buffer}
use Rattle.model.specs.Delivery.{Slots}
use Rattle.model.specs.Rounds.{applicable}
use Rattle.model.specs.Largest.{candidate}
use Rattle.model.specs.Calls.{cleared}
use Rattle.model.specs.declared.Pending.{Pending}

-- the set, with this many bytes of scratch: no slot where they are fewer than 64
unfoldable pub apply_answer : ℕ → ℕ → List Pending → Slots
apply_answer room n P = cond (leb scratch_size room) (applicable n P) (replicate capacity false)

-- the scratch area afterwards
unfoldable pub apply_scratch : List ℕ → List ℕ
apply_scratch s = cond (leb scratch_size (length s)) (cleared s) s

pub record Applied (n : ℕ) (P : List Pending) (s : List ℕ) (answer : Slots) (after : List ℕ) : Type 0 where
  pub set : answer ≡ apply_answer (length s) n P
  pub scratch : after ≡ apply_scratch s

-- MEANWHILE the bytes name slots: from byte 0 up the members of the set, from byte 63 down the others in the buffer

abbrev pub front : List ℕ → ℕ → ℕ
front m j = get_or m j 0

abbrev pub back : List ℕ → ℕ → ℕ
back m j = get_or m (scratch_size - 1 - j) 0

-- how many of the first k numbers of f are t
unfoldable pub times : (ℕ → ℕ) → ℕ → ℕ → ℕ
times f k t = count k (λ j. eqb (f j) t)

-- the slots that the first k bytes name
unfoldable pub named : ℕ → List ℕ → Slots
named k m = tabulate capacity (λ t. ltb 0 (times (front m) k t))

-- line 15: of the slots below e that are in the buffer, c bytes name each candidate once, and o bytes each other once
pub record Divided (n : ℕ) (P : List Pending) (e : ℕ) (m : List ℕ) (c o : ℕ) : Type 0 where
  pub few : c + o ≤ e
  pub candidates : (t : ℕ) → times (front m) c t ≡ tally (ltb t e && (in_buffer P t && candidate n P t)) 0
  pub others : (t : ℕ) → times (back m) o t ≡ tally (ltb t e && (in_buffer P t && not (candidate n P t))) 0

-- the first k bytes are there, and name slots
pub record Listed (k : ℕ) (m : List ℕ) : Type 0 where
  pub few : k ≤ length m
  pub below : (j : ℕ) → j < k → front m j < capacity

-- line 16: the first c bytes name the set
pub record Settled (n : ℕ) (P : List Pending) (m : List ℕ) (c : ℕ) : Type 0 where
  pub listed : Listed c m
  pub set : named c m ≡ applicable n P

-- Lines 15 and 16 of Algorithm 1: the largest set of pending messages that a process may deliver, by the positions that it has marked.
use Rattle.std.specs.Prelude.{ℕ, ◌≤◌, ◌<◌, ◌≡◌, Bool, true, false, ◌&&◌, ◌||◌, cond, eqb, ltb}
use Rattle.lists.specs.Below.{count}
use Rattle.broadcast.specs.State.{System, State}

pub record Subset (A B : ℕ → Bool) : Type 0 where
  pub each : (m : ℕ) → A m ≡ true → B m ≡ true

-- a is less than b at a quorum of the n processes
abbrev pub QuorumLess : ℕ → ℕ → (ℕ → ℕ) → (ℕ → ℕ) → Type 0
QuorumLess n quorum a b = quorum ≤ count n (λ f. ltb (a f) (b f))

-- Over any items: those that are pending, and the mark of each for each process.
module _ (n quorum absent : ℕ) (Pending : ℕ → Type 0) (mark : ℕ → ℕ → ℕ) where
  pub record ClosedSet (t : ℕ → Bool) : Type 0 where
    pub pending : (x : ℕ) → t x ≡ true → Pending x
    pub marks : (x : ℕ) → t x ≡ true → QuorumLess n quorum (mark x) (λ f. absent)
    pub before : (x y : ℕ) → t x ≡ true → Pending y → t y ≡ false → QuorumLess n quorum (mark x) (mark y)

  pub record LargestSet (t : ℕ → Bool) : Type 0 where
    pub closed : ClosedSet t
    pub largest : (u : ℕ → Bool) → ClosedSet u → Subset u t

module _ (k : System) (s : State) (i : ℕ) where
  -- what i knows of m's position in f's log: i has read it there, or is f and m's sender; otherwise top
  unfoldable pub mark : ℕ → ℕ → ℕ
  mark m f =
      cond (ltb (s.position f m) (s.read i f) || (eqb f i && eqb (k.sender m) i))
      (s.position f m)
      k.top

  pub record Pending (m : ℕ) : Type 0 where
    pub logged : s.position i m < k.top
    pub undelivered : s.delivered i m ≡ false

  abbrev pub Closed : (ℕ → Bool) → Type 0
  Closed = ClosedSet k.n k.quorum k.top Pending mark

  abbrev pub Largest : (ℕ → Bool) → Type 0
  Largest = LargestSet k.n k.quorum k.top Pending mark

-- The events, when each is legal, and what is claimed of their runs.
use Rattle.std.specs.Prelude.{ℕ, ◌≤◌, ◌<◌, ◌≡◌, Bool, true, ◌⊎◌}
use Rattle.broadcast.specs.State.{System, State, append, scd_deliver, crash, receive}
use Rattle.broadcast.specs.Delivery.{Subset, Largest}

module _ (k : System) (s : State) where
  -- c broadcasts m, its own and new
  pub record MayBroadcast (c m : ℕ) : Type 0 where
    pub process : c < k.n
    pub running : s.running c ≡ true
    pub own : k.sender m ≡ c
    pub message : m < k.many
    pub new : s.position c m ≡ k.top
    pub room : s.length c < k.top

  -- m is the next entry that r reads of o's log
  pub record MayRead (r o m : ℕ) : Type 0 where
    pub process : r < k.n
    pub running : s.running r ≡ true
    pub next : s.position o m ≡ s.read r o
    pub unread : s.read r o < s.readable o
    pub room : s.position r m ≡ k.top → s.length r < k.top

  -- c crashes, and l entries of its log stay readable
  pub record MayCrash (c l : ℕ) : Type 0 where
    pub process : c < k.n
    pub running : s.running c ≡ true
    pub fits : l ≤ s.readable c
    pub keeps_read : (r : ℕ) → r < k.n → s.read r c ≤ l

  pub data Event : State → Type 0 where
    broadcasts : (c m : ℕ) → MayBroadcast c m → Event (append s c m)
    delivers : (r o m : ℕ) (t : ℕ → Bool) → MayRead r o m → Largest k (receive k s r o m) r t → Event (scd_deliver (receive k s r o m) r t)
    crashes : (c l : ℕ) → MayCrash c l → Event (crash s c l)

-- a list of events
pub data Run (k : System) (s : State) : State → Type 0 where
  start : Run k s s
  then : {u v : State} → Run k s u → Event k u v → Run k s v

abbrev pub Comparable : (ℕ → Bool) → (ℕ → Bool) → Type 0
Comparable A B = Subset A B ⊎ Subset B A

module _ (k : System) (s : State) where
  -- each running process has read every log to its end
  pub record AllRead : Type 0 where
    pub to_end : (r o : ℕ) → r < k.n → o < k.n → s.running r ≡ true → s.read r o ≡ s.readable o

  -- m was sent, and no crash cut it off its sender's log
  abbrev pub Remains : ℕ → Type 0
  Remains m = s.position (k.sender m) m < s.readable (k.sender m)

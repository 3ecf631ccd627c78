-- The state of a system of processes that forward messages, and the operations on it.
-- Processes and messages are numbers; a log is the position of each message in it. It is the uncut log: a crash only moves how much is readable.
use Rattle.std.specs.Prelude.{ℕ, suc, ◌+◌, ◌<◌, Bool, true, false, ◌||◌, cond, eqb, ltb}

-- `top` is the position of a message that a log lacks, above every other; messages are the numbers below `many`
pub record System : Type 0 where
  pub n : ℕ
  pub quorum : ℕ
  pub top : ℕ
  pub many : ℕ
  pub sender : ℕ → ℕ
  pub quorums_meet : n < quorum + quorum

pub record State : Type 0 where
  -- process, message
  pub position : ℕ → ℕ → ℕ
  pub length : ℕ → ℕ
  -- reader, owner of the log: how many entries were read
  pub read : ℕ → ℕ → ℕ
  -- process, message
  pub delivered : ℕ → ℕ → Bool
  pub running : ℕ → Bool
  -- how much of a log can be read: all of it, until a crash cuts it
  pub readable : ℕ → ℕ

-- one value of a function changed
unfoldable pub update : {A : Type 0} → (ℕ → A) → ℕ → A → ℕ → A
update f c v x = cond (eqb x c) v (f x)

-- one cell of a function of two arguments changed
unfoldable pub update_at : (ℕ → ℕ → ℕ) → ℕ → ℕ → ℕ → ℕ → ℕ → ℕ
update_at f c d v = update f c (update (f c) d v)

unfoldable pub fresh : ℕ → State
fresh top = record {
  position = λ f m. top;
  length = λ f. 0;
  read = λ r o. 0;
  delivered = λ i m. false;
  running = λ f. true;
  readable = λ f. 0;
}

-- line 11: c forwards m, which its log lacks
unfoldable pub append : State → ℕ → ℕ → State
append s c m = record {
  position = update_at s.position c m (s.length c);
  length = update s.length c (suc (s.length c));
  read = s.read;
  delivered = s.delivered;
  running = s.running;
  readable = update s.readable c (suc (s.readable c));
}

-- r reads one entry more of o's log
unfoldable pub fifo_deliver : State → ℕ → ℕ → State
fifo_deliver s r o = record {
  position = s.position;
  length = s.length;
  read = update_at s.read r o (suc (s.read r o));
  delivered = s.delivered;
  running = s.running;
  readable = s.readable;
}

-- line 20: r delivers the messages of a set
unfoldable pub scd_deliver : State → ℕ → (ℕ → Bool) → State
scd_deliver s r t = record {
  position = s.position;
  length = s.length;
  read = s.read;
  delivered = update s.delivered r (λ m. s.delivered r m || t m);
  running = s.running;
  readable = s.readable;
}

-- c acts no more, and l entries of its log stay readable
unfoldable pub crash : State → ℕ → ℕ → State
crash s c l = record {
  position = s.position;
  length = s.length;
  read = s.read;
  delivered = s.delivered;
  running = update s.running c false;
  readable = update s.readable c l;
}

-- lines 5 to 14: r forwards m, unless it did before
unfoldable pub forward : System → State → ℕ → ℕ → State
forward k s r m = cond (ltb (s.position r m) k.top) s (append s r m)

-- r has read m from o's log and forwarded it
abbrev pub receive : System → State → ℕ → ℕ → ℕ → State
receive k s r o m = fifo_deliver (forward k s r m) r o

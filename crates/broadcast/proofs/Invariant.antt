-- The invariant of every reachable state, kept by an append, a fifo-delivery and a crash where they are legal. Assumes nothing.
use Prim.Native.Nat.{ℕ, suc, ◌≤◌, ◌<◌}
use mathlib.Core.Bool.{Bool, true, false, false≢true}
use mathlib.Core.Path.{◌≡◌, sym, ap}
use native.Mathlib.Omega.{arith}
use native.Mathlib.Decide.{dec_lt}
use Rattle.broadcast.specs.State.{System, State, append, fifo_deliver, crash}
use Rattle.broadcast.specs.Events.{MayCrash}
use Rattle.broadcast.proofs.Updates.{update_case, update_case₂, read_case}
use Rattle.broadcast.proofs.Positions.{Logs, Entry, appended, unchanged, position_after, position_kept, order_kept, grow_case, append_logs}
use Rattle.broadcast.proofs.Stable.{Stable, stable_mono}

module _ (k : System) where
  open k use {n, top}

  pub record Invariant (s : State) : Type 0 where
    pub logs : Logs k s.position s.length
    pub read_readable : (r o : ℕ) → s.read r o ≤ s.readable o
    pub readable_length : (o : ℕ) → s.readable o ≤ s.length o
    pub running_readable : (c : ℕ) → s.running c ≡ true → s.readable c ≡ s.length c
    -- a number that is no process reads nothing
    pub idle : (r o : ℕ) → n ≤ r → s.read r o ≡ 0
    -- what r has read is in its own log
    pub heard : (r o m : ℕ) → s.position o m < s.read r o → s.position r m < top
    pub logged : (i m : ℕ) → s.delivered i m ≡ true → s.position i m < top
    pub stable : (i : ℕ) → Stable k s.position (s.delivered i)

  module _ (s : State) (v : Invariant s) where
    pub read_length : (r o : ℕ) → s.read r o ≤ s.length o
    read_length r o = omega (arith, v.read_readable r o, v.readable_length o)

    module _ (c m : ℕ) (w : Entry k s c m) where
      heard_append : (r o y : ℕ) → (append s c m).position o y < s.read r o → (append s c m).position r y < top
      heard_append r o y h = elim (position_after k s c m w.new o y) [
        | appended a b z e ↦ absurd (omega (arith, read_length r o))
        | unchanged d e ↦ let p = v.heard r o y (omega arith) in omega (arith, position_kept k s c m w.new r y p)
      ]

      pub append_stable : (D : ℕ → Bool) → Stable k s.position D → Stable k (append s c m).position D
      append_stable = stable_mono k s.position (append s c m).position (order_kept k s c m w v.logs)

      pub append_invariant : Invariant (append s c m)
      unfolding append
      append_invariant = record {
        logs = append_logs k s c m w v.logs;
        read_readable = λ r o. grow_case k s c m (λ a _. s.read r o ≤ a) o (λ _. omega (arith, v.read_readable r o)) (λ _. v.read_readable r o);
        readable_length = λ o. grow_case k s c m (λ a b. a ≤ b) o (λ _. omega (arith, v.readable_length o)) (λ _. v.readable_length o);
        running_readable = λ o h. grow_case k s c m (λ a b. a ≡ b) o (λ _. ap suc (v.running_readable o h)) (λ _. v.running_readable o h);
        idle = v.idle;
        heard = heard_append;
        logged = λ i y h. let p = v.logged i y h in omega (arith, position_kept k s c m w.new i y p);
        stable = λ i. append_stable (s.delivered i) (v.stable i);
      }

    -- r reads m, which is next in o's log and in r's own
    module _ (r o m : ℕ) (process : r < n) (next : s.position o m ≡ s.read r o) (unread : s.read r o < s.readable o) (mine : s.position r m < top) where
      heard_now : (y : ℕ) → s.position o y < suc (s.read r o) → s.position r y < top
      heard_now y h = elim (dec_lt (s.position o y) (s.read r o)) [
        | yes b ↦ v.heard r o y b
        | no b ↦ rw (sym (v.logs.distinct o m y (omega (arith, v.readable_length o, v.logs.length_top o)) (omega arith))) mine
      ]

      pub fifo_deliver_invariant : Invariant (fifo_deliver s r o)
      unfolding fifo_deliver
      fifo_deliver_invariant = record {
        logs = v.logs;
        read_readable = λ r' o'. read_case s r o (λ p. p ≤ s.readable o') r' o' (λ a b. rw (a, b) unread) (λ _. v.read_readable r' o');
        readable_length = v.readable_length;
        running_readable = v.running_readable;
        idle = λ r' o' h. read_case s r o (λ p. p ≡ 0) r' o' (λ a _. absurd (omega arith)) (λ _. v.idle r' o' h);
        heard = λ r' o' y. read_case s r o (λ p. s.position o' y < p → s.position r' y < top) r' o'
            (λ a b h. rw a (heard_now y (rw (a, b) at h))) (λ _. v.heard r' o' y);
        logged = v.logged;
        stable = v.stable;
      }

    pub crash_invariant : (c l : ℕ) → MayCrash k s c l → Invariant (crash s c l)
    unfolding crash
    crash_invariant c l w = record {
      logs = v.logs;
      read_readable = λ r o. update_case (λ p. s.read r o ≤ p) s.readable c l o (λ e. rw e (read_kept r)) (λ _. v.read_readable r o);
      readable_length = λ o. update_case (λ p. p ≤ s.length o) s.readable c l o (λ e. rw e (omega (arith, v.readable_length c))) (λ _. v.readable_length o);
      running_readable = λ o. update_case₂ (λ b p. b ≡ true → p ≡ s.length o) s.running s.readable c false l o (λ _ h. absurd (false≢true h)) (λ _. v.running_readable o);
      idle = v.idle;
      heard = v.heard;
      logged = v.logged;
      stable = v.stable;
    }
      where
        read_kept : (r : ℕ) → s.read r c ≤ l
        read_kept r = elim (dec_lt r n) [ yes h ↦ w.keeps_read r h | no h ↦ omega (arith, v.idle r c (omega arith)) ]

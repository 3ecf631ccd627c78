-- Every event of a run keeps the whole invariant, and keeps stable what was stable. Assumes nothing.
use Prim.Native.Nat.{ℕ, ◌≤◌, ◌<◌}
use mathlib.Core.Bool.{Bool, false≢true}
use mathlib.Core.Path.{◌≡◌, refl, ◌∙◌}
use mathlib.Core.Logic.{◌≢◌}
use native.Mathlib.Omega.{arith}
use native.Mathlib.Decide.{ℕ_discrete}
use Rattle.broadcast.specs.State.{System, State, fresh, append, fifo_deliver, scd_deliver, crash, forward, receive}
use Rattle.broadcast.specs.Delivery.{Largest}
use Rattle.broadcast.specs.Events.{MayBroadcast, MayRead, MayCrash, Event, broadcasts, delivers, crashes, Run, start, then}
use Rattle.broadcast.proofs.Positions.{appended, unchanged, position_after, position_kept, grow_case}
use Rattle.broadcast.proofs.Stable.{Stable}
use Rattle.broadcast.proofs.Invariant.{Invariant, append_stable, append_invariant, fifo_deliver_invariant, crash_invariant}
use Rattle.broadcast.proofs.Evidence.{scd_deliver_invariant}
use Rattle.broadcast.proofs.Legal.{forward_case, broadcast_entry, next_present, forward-entry}
use Rattle.broadcast.proofs.Sources.{Sourced, same_sourced, broadcast_sourced, receive_sourced}
use Rattle.broadcast.proofs.Settled.{Settled, same-settled, append_view, append_settled, fifo_deliver_view, scd_deliver_view, crash_view, deliver_settled}

module _ (k : System) where
  open k use {top}

  pub record All (s : State) : Type 0 where
    pub invariant : Invariant k s
    pub sourced : Sourced k s
    pub settled : (r : ℕ) → Settled k s r

  pub record Kept (s u : State) : Type 0 where
    pub all : All u
    pub keeps_stable : (D : ℕ → Bool) → Stable k s.position D → Stable k u.position D

  -- between the forward of a message and the read of its entry
  pub record Forwarded (s : State) (r o m : ℕ) (u : State) : Type 0 where
    pub invariant : Invariant k u
    pub next : u.position o m ≡ u.read r o
    pub unread : u.read r o < u.readable o
    pub mine : u.position r m < top
    pub others : (i : ℕ) → i ≢ r → Settled k u i
    pub keeps_stable : (D : ℕ → Bool) → Stable k s.position D → Stable k u.position D

  module _ (s : State) (a : All s) where
    abbrev v : Invariant k s
    v = a.invariant

    broadcast_kept : (c m : ℕ) → MayBroadcast k s c m → Kept s (append s c m)
    broadcast_kept c m w = let e = broadcast_entry k s v c m w in record {
      all = record {
        invariant = append_invariant k s v c m e;
        sourced = broadcast_sourced k s v a.sourced c m w;
        settled = λ r. elim (ℕ_discrete r c) [
          | yes d ↦ rw d (append_settled k s v c m e)
          | no d ↦ same-settled k s (append s c m) r (append_view k s v c m e r d) (a.settled r)
        ];
      };
      keeps_stable = append_stable k s v c m e;
    }

    module _ (r o m : ℕ) (w : MayRead k s r o m) where
      pub forwarded : Forwarded s r o m (forward k s r m)
      unfolding append
      forwarded = forward_case k (Forwarded s r o m) s r m again first
        where
          again : s.position r m < top → Forwarded s r o m s
          again h = record { invariant = v; next = w.next; unread = w.unread; mine = h; others = λ i _. a.settled i; keeps_stable = λ D g. g }

          first : top ≤ s.position r m → Forwarded s r o m (append s r m)
          first h = let e = forward-entry k s v r o m w h in record {
            invariant = append_invariant k s v r m e;
            next = position_kept k s r m e.new o m (next_present k s v r o m w) ∙ w.next;
            unread = grow_case k s r m (λ a _. s.read r o < a) o (λ _. omega arith) (λ _. w.unread);
            mine = elim (position_after k s r m e.new r m) [ appended a b z q ↦ omega arith | unchanged d q ↦ absurd (d refl refl) ];
            others = λ i d. same-settled k s (append s r m) i (append_view k s v r m e i d) (a.settled i);
            keeps_stable = append_stable k s v r m e;
          }

      deliver_kept : (t : ℕ → Bool) → Largest k (receive k s r o m) r t → Kept s (scd_deliver (receive k s r o m) r t)
      unfolding fifo_deliver scd_deliver
      deliver_kept t b =
          let u = forward k s r m in
          let x = receive k s r o m in
          let g = forwarded in
          record {
            all = record {
              invariant = scd_deliver_invariant k x (fifo_deliver_invariant k u g.invariant r o m w.process g.next g.unread g.mine) r w.process t b.closed;
              sourced = same_sourced k x (scd_deliver x r t) refl refl (receive_sourced k s v a.sourced r o m w);
              settled = λ i. elim (ℕ_discrete i r) [
                | yes d ↦ rw d (deliver_settled k x r t b)
                | no d ↦ same-settled k x (scd_deliver x r t) i (scd_deliver_view k x r t i d) (same-settled k u x i (fifo_deliver_view k u r o i d) (g.others i d))
              ];
            };
            keeps_stable = g.keeps_stable;
          }

    crash_kept : (c l : ℕ) → MayCrash k s c l → Kept s (crash s c l)
    unfolding crash
    crash_kept c l w = record {
      all = record {
        invariant = crash_invariant k s v c l w;
        sourced = same_sourced k s (crash s c l) refl refl a.sourced;
        settled = λ r. same-settled k s (crash s c l) r (crash_view k s c l r) (a.settled r);
      };
      keeps_stable = λ D g. g;
    }

  pub event_kept : (s u : State) → All s → Event k s u → Kept s u
  event_kept s u a (broadcasts c m w) = broadcast_kept s a c m w
  event_kept s u a (delivers r o m t w b) = deliver_kept s a r o m w t b
  event_kept s u a (crashes c l w) = crash_kept s a c l w

  pub run_kept : (s u : State) → All s → Run k s u → Kept s u
  run_kept s u a start = record { all = a; keeps_stable = λ D g. g }
  run_kept s u a (then {u = x} p e) =
      let b = run_kept s x a p in
      let d = event_kept x u b.all e in
      record { all = d.all; keeps_stable = λ D g. d.keeps_stable D (b.keeps_stable D g) }

  pub fresh-all : All (fresh top)
  unfolding fresh
  fresh-all = record {
    invariant = record {
      logs = record {
        length_top = λ f. omega arith;
        position_top = λ f m. omega arith;
        position_length = λ f m h. absurd (omega arith);
        distinct = λ f x y h. absurd (omega arith);
        sent = λ f m h. h;
        named = λ f m h. absurd (omega arith);
        causal = λ f m z h. absurd (omega arith);
      };
      read_readable = λ r o. omega arith;
      readable_length = λ o. omega arith;
      running_readable = λ c h. refl;
      idle = λ r o h. refl;
      heard = λ r o m h. absurd (omega arith);
      logged = λ i m h. absurd (false≢true h);
      stable = λ i. record { precedes = λ x y h. absurd (false≢true h) };
    };
    sourced = record { reader = λ f m h. absurd (omega arith) };
    settled = λ r. record { none_pending = λ b e h y p. absurd (omega arith) };
  }

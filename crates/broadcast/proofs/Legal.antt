-- A legal broadcast, and the first read of a message, may put it into a log. Assumes nothing.
use Prim.Native.Nat.{ℕ, ◌≤◌, ◌<◌}
use mathlib.Core.Path.{◌≡◌, refl, sym}
use native.Mathlib.Omega.{arith}
use lib.Dec.{ltb}
use borrow.Author.Tests.{ltb-true, ltb-false}
use Rattle.lists.proofs.Tests.{cond_case}
use Rattle.broadcast.specs.State.{System, State, append, fifo_deliver, forward, receive}
use Rattle.broadcast.specs.Events.{MayBroadcast, MayRead}
use Rattle.broadcast.proofs.Positions.{Entry}
use Rattle.broadcast.proofs.Invariant.{Invariant}

module _ (k : System) where
  open k use {top}

  pub forward_case : (Q : State → Type 0) (s : State) (r m : ℕ) → (s.position r m < top → Q s) → (top ≤ s.position r m → Q (append s r m)) → Q (forward k s r m)
  unfolding forward
  forward_case Q s r m h g = cond_case Q (ltb (s.position r m) top) s (append s r m) (λ e. h (ltb-true (s.position r m) top e)) (λ e. g (ltb-false (s.position r m) top e))

  pub receive_delivered : (s : State) (r o m : ℕ) → (receive k s r o m).delivered ≡ s.delivered
  unfolding fifo_deliver append
  receive_delivered s r o m = forward_case (λ u. u.delivered ≡ s.delivered) s r m (λ _. refl) (λ _. refl)

  module _ (s : State) (v : Invariant k s) where
    pub broadcast_entry : (c m : ℕ) → MayBroadcast k s c m → Entry k s c m
    broadcast_entry c m w = record {
      room = w.room;
      new = w.new;
      from = (rw w.own w.process, w.message);
      known = λ d. absurd (d (sym w.own));
      ordered = λ d. absurd (d (sym w.own));
    }

    module _ (r o m : ℕ) (w : MayRead k s r o m) where
      pub next_present : s.position o m < top
      next_present = omega (arith, v.readable_length o, v.logs.length_top o)

      pub forward-entry : top ≤ s.position r m → Entry k s r m
      forward-entry h =
          let e : s.position r m ≡ top = omega (arith, v.logs.position_top r m) in
          record {
            room = w.room e;
            new = e;
            from = v.logs.named o m next_present;
            known = λ _. v.logs.sent o m next_present;
            ordered = λ _ z b. v.heard r o z (omega (arith, v.logs.causal o m z next_present b));
          }

-- A message that a process other than its sender has in its log was read from the sender's log, so no crash cuts it off. Assumes nothing.
use Prim.Native.Nat.{ℕ, ◌≤◌, ◌<◌}
use mathlib.Core.Path.{◌≡◌, refl, sym}
use mathlib.Core.Logic.{◌≢◌}
use native.Mathlib.Omega.{arith}
use native.Mathlib.Decide.{ℕ_discrete}
use Rattle.broadcast.specs.State.{System, State, append, fifo_deliver, receive}
use Rattle.broadcast.specs.Events.{MayBroadcast, MayRead}
use Rattle.broadcast.proofs.Updates.{read_case}
use Rattle.broadcast.proofs.Positions.{appended, unchanged, position_after, position_kept}
use Rattle.broadcast.proofs.Invariant.{Invariant, read_length}
use Rattle.broadcast.proofs.Legal.{forward_case, next_present}

module _ (k : System) where
  open k use {top, sender}

  pub record Reader (s : State) (m : ℕ) : Type 0 where
    pub who : ℕ
    pub beyond : s.position (sender m) m < s.read who (sender m)

  pub record Sourced (s : State) : Type 0 where
    pub reader : (f m : ℕ) → s.position f m < top → f ≢ sender m → Reader s m

  pub same_sourced : (s u : State) → u.position ≡ s.position → u.read ≡ s.read → Sourced s → Sourced u
  same_sourced s u p q a = record { reader = λ f m h d. let z = a.reader f m (rw p at h) d in record { who = z.who; beyond = rw (p, q) z.beyond } }

  append_sourced : (s : State) (c m : ℕ) → s.position c m ≡ top → ((r o : ℕ) → s.read r o ≤ top) → (c ≢ sender m → Reader s m) → Sourced s → Sourced (append s c m)
  unfolding append
  append_sourced s c m new read_top d a = record {
    reader = λ f y p q. elim (position_after k s c m new f y) [
      | appended e g z h ↦ kept y (rw g (d (λ b. q (rw (e, g) b))))
      | unchanged g h ↦ kept y (a.reader f y (omega arith) q)
    ];
  }
    where
      kept : (y : ℕ) → Reader s y → Reader (append s c m) y
      kept y b = record { who = b.who; beyond = omega (arith, position_kept k s c m new (sender y) y (omega (arith, read_top b.who (sender y)))) }

  module _ (s : State) (r o : ℕ) where
    fifo_deliver_sourced : Sourced s → Sourced (fifo_deliver s r o)
    unfolding fifo_deliver
    fifo_deliver_sourced a = record {
      reader = λ f y p q. let b = a.reader f y p q in
          record { who = b.who; beyond = read_case s r o (λ p. s.position (sender y) y < p) b.who (sender y) (λ _ _. omega arith) (λ _. b.beyond) };
    }

    read_now : (m : ℕ) → s.position o m ≡ s.read r o → o ≡ sender m → Reader (fifo_deliver s r o) m
    unfolding fifo_deliver
    read_now m e d = record { who = r; beyond = rw (sym d) (read_case s r o (λ p. s.position o m < p) r o (λ _ _. omega arith) (λ q. absurd (q refl refl))) }

  module _ (s : State) (v : Invariant k s) (a : Sourced s) where
    read_top : (r o : ℕ) → s.read r o ≤ top
    read_top r o = omega (arith, read_length k s v r o, v.logs.length_top o)

    pub broadcast_sourced : (c m : ℕ) → MayBroadcast k s c m → Sourced (append s c m)
    broadcast_sourced c m w = append_sourced s c m w.new read_top (λ d. absurd (d (sym w.own))) a

    pub receive_sourced : (r o m : ℕ) → MayRead k s r o m → Sourced (receive k s r o m)
    unfolding append fifo_deliver
    receive_sourced r o m w = forward_case k (λ u. Sourced (fifo_deliver u r o)) s r m (λ _. b) first
      where
        b : Sourced (fifo_deliver s r o)
        b = fifo_deliver_sourced s r o a

        read_top' : (r' o' : ℕ) → (fifo_deliver s r o).read r' o' ≤ top
        read_top' r' o' = read_case s r o (λ p. p ≤ top) r' o'
            (λ d e. rw (d, e) (omega (arith, v.readable_length o, v.logs.length_top o))) (λ _. read_top r' o')

        -- the entry stands in the log of its sender, who reads it now, or in another's
        source : Reader (fifo_deliver s r o) m
        source = elim (ℕ_discrete o (sender m)) [
          | yes d ↦ read_now s r o m w.next d
          | no d ↦ b.reader o m (next_present k s v r o m w) d
        ]

        first : top ≤ s.position r m → Sourced (fifo_deliver (append s r m) r o)
        first h = append_sourced (fifo_deliver s r o) r m (omega (arith, v.logs.position_top r m)) read_top' (λ _. source) b

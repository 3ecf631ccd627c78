-- The controllers that a record names, taken out of the table: they are the definition's. Assumes nothing.
use mathlib.Core.Path.{◌≡◌, refl, ap}
use Prim.Native.Nat.{ℕ, ◌-◌, ◌<◌}
use native.Mathlib.Omega.{arith}
use lib.ListN.{get_or}
use Rattle.model.specs.Tables.{seats, no_controller, controller_in, at}
use Rattle.model.specs.Events.{subject}
use Rattle.model.specs.declared.Table.{Table}
use Rattle.model.specs.declared.Event.{Event}
use Rattle.model.specs.declared.Event.TheVariants.{Send, Handover, Stop}
use Rattle.model.specs.declared.Command.{Command}
use Rattle.model.specs.declared.Command.TheVariants.{Act, Read}
use Rattle.model.specs.Facts.{Among}
use Rattle.effects.specs.Conditions.{Accepted}
use Rattle.effects.specs.Parties.{Both, owner_of, seat_of, indices_of, hand_of, Allowed}
use Rattle.effects.proofs.Room.{subject_seated, readable}

pub seat_is : (c i : ℕ) → i ≡ seat_of c → Among seats c → i ≡ c - 1
seat_is c i e h = omega (arith, e, h.low, h.high)

pub indices_low : (a : Command) → ((indices_of a).subject < seats) × ((indices_of a).owner < seats)
unfolding indices_of
indices_low (Act e) = (omega arith, omega arith)
indices_low (Read c) = (omega arith, omega arith)

module _ (t : Table) where
  owner_seated : (e : Event) → Accepted t e → Among seats (owner_of e)
  unfolding owner_of subject
  owner_seated (Send c p) q = subject_seated t (Send c p) q
  owner_seated (Handover r o) q = (readable t r o q).owner
  owner_seated (Stop c k) q = subject_seated t (Stop c k) q

  pub at_seat : (c i : ℕ) → i ≡ seat_of c → Among seats c → get_or t.controllers i no_controller ≡ at t c
  unfolding controller_in
  at_seat c i e h = ap (λ (k : ℕ). get_or t.controllers k no_controller) (seat_is c i e h)

  module _ (e : Event) (q : Accepted t e) where
    pub allowed_at : (i j : ℕ) → i ≡ seat_of (subject e) → j ≡ seat_of (owner_of e)
        → Allowed t e (get_or t.controllers i no_controller) (get_or t.controllers j no_controller)
    allowed_at i j ei ej = record {
      accepted = q;
      subject_is = at_seat (subject e) i ei (subject_seated t e q);
      owner_is = at_seat (owner_of e) j ej (owner_seated e q);
    }

    pub allowed_hand : (a : Command) → a ≡ Act e → (p : Both) → p ≡ hand_of t.controllers a → Allowed t e p.subject p.owner
    unfolding hand_of indices_of
    allowed_hand a acts p is = rw (is, acts) (allowed_at _ _ refl refl)

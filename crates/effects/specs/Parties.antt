-- The controllers that an event reads, as the functions of the effects hand them on in place of the table.
use Rattle.std.specs.Prelude.{◌≡◌, List, ℕ, ◌-◌, min, get_or}
use Rattle.model.specs.Tables.{seats, no_controller, at}
use Rattle.model.specs.Events.{subject}
use Rattle.model.specs.declared.Controller.{Controller}
use Rattle.model.specs.declared.Table.{Table}
use Rattle.model.specs.declared.Event.{Event}
use Rattle.model.specs.declared.Event.TheVariants.{Send, Handover, Stop}
use Rattle.model.specs.declared.Command.{Command}
use Rattle.model.specs.declared.Command.TheVariants.{Act, Read}
use Rattle.effects.specs.declared.Places.{Places}
use Rattle.model.specs.declared.Parties.{Parties}
use Rattle.effects.specs.Conditions.{Accepted}

-- the controller whose log a handover reads; the subject of any other event
unfoldable pub owner_of : Event → ℕ
owner_of (Send c p) = c
owner_of (Handover r o) = o
owner_of (Stop c k) = c

-- the index of controller c, from 1, and always that of some controller
abbrev pub seat_of : ℕ → ℕ
seat_of c = min (c - 1) (seats - 1)

-- the indices of the controllers that a record names; a local read has its controller for both
unfoldable pub indices_of : Command → Places
indices_of (Act e) = record { subject = seat_of (subject e); owner = seat_of (owner_of e) }
indices_of (Read c) = record { subject = seat_of c; owner = seat_of c }

-- the two controllers that a record names
pub record Both : Type 0 where
  pub subject : Controller
  pub owner : Controller

-- what stands among the controllers C in these places
unfoldable pub hand_of : List Controller → Command → Both
hand_of C a = record { subject = get_or C (indices_of a).subject no_controller; owner = get_or C (indices_of a).owner no_controller }

-- the controllers that references lead to
abbrev pub both : Parties → Both
both p = record { subject = p.subject.now; owner = p.owner.now }

-- no question refuses the event; its subject is x, and it reads the log of y
pub record Allowed (t : Table) (e : Event) (x y : Controller) : Type 0 where
  pub accepted : Accepted t e
  pub subject_is : x ≡ at t (subject e)
  pub owner_is : y ≡ at t (owner_of e)

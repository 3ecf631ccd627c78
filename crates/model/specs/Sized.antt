-- The lengths that the language's types give the arrays of every table: a fact of all memory that can be lent, and not tested.
use Rattle.std.specs.Prelude.{◌≡◌, ℕ, ◌<◌, length, get_or}
use Rattle.model.specs.Tables.{seats, capacity, no_controller, entry}
use Rattle.model.specs.declared.Controller.{Controller}
use Rattle.model.specs.declared.Table.{Table}

pub record SizedController (c : Controller) : Type 0 where
  pub log : length c.log ≡ capacity
  pub read : length c.read ≡ seats
  pub pending : length c.pending ≡ capacity
  pub marks : (s : ℕ) → s < capacity → length (entry c.pending s).marks ≡ seats
  pub applied : length c.applied ≡ capacity
  pub highest : length c.highest ≡ seats

pub record Sized (t : Table) : Type 0 where
  pub messages : length t.messages ≡ capacity
  pub controllers : length t.controllers ≡ seats
  pub each : (i : ℕ) → i < seats → SizedController (get_or t.controllers i no_controller)

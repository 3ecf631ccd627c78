-- What functions of the code are handed: the messages of a run, how many there are and a reference to the array that has them; and what
-- a message of a kind says that says no more.
use Rattle.std.specs.Prelude.{ℕ}
use Rattle.model.specs.Tables.{Messages as OfRun, first_of}
use Rattle.model.specs.declared.Payload.{Payload}
use Rattle.model.specs.declared.Messages.{Messages}

abbrev pub all_of : Messages → OfRun
all_of m = first_of m.count m.slots.now

abbrev pub bare : ℕ → Payload
bare k = record { kind = k; class = 0; added = 0; withdrawn = 0; reg = 0; value = 0 }

-- The refusals of the code, and the number of each: that of the question to which it is the no.
use Rattle.std.specs.Prelude.{ℕ, Result, Ok, Err}
use Rattle.model.specs.declared.refusal.Refusal.{Refusal}
use Rattle.model.specs.declared.refusal.Refusal.TheVariants.{FileLength, Version, ControllerCount, Table, Record, Kind, RecordLength, Controller, Amount, Stopped, OwnPending, Full, NoEntry, Kept, Scratch, Listing, Class, ReadPending, Register, NotSynced, ActCount}

abbrev pub refusal_number : Refusal → ℕ
refusal_number FileLength = 1
refusal_number Version = 2
refusal_number ControllerCount = 3
refusal_number Table = 4
refusal_number Record = 5
refusal_number Kind = 6
refusal_number RecordLength = 7
refusal_number Controller = 8
refusal_number Amount = 9
refusal_number Stopped = 10
refusal_number OwnPending = 11
refusal_number Full = 12
refusal_number NoEntry = 13
refusal_number Kept = 14
refusal_number Scratch = 15
refusal_number Listing = 16
refusal_number Class = 17
refusal_number ReadPending = 18
refusal_number Register = 19
refusal_number NotSynced = 20
refusal_number ActCount = 21

-- the number that a call answers: 0 if it accepts, and else that of its refusal
abbrev pub refusal_in : {A : Type 0} → Result A Refusal → ℕ
refusal_in (Ok x) = 0
refusal_in (Err r) = refusal_number r

-- The numbers of the questions to which a fault is the no.
use Rattle.std.specs.Prelude.{ℕ, Result, Ok, Err}
use Rattle.books.specs.declared.Fault.{Fault}
use Rattle.books.specs.declared.Fault.TheVariants.{Layout, Repeated, NotSent, Opposite}

abbrev pub number : Fault → ℕ
number Layout = 5
number Repeated = 22
number NotSent = 23
number Opposite = 24

-- 0 where there is none
abbrev pub verdict : Result (Unit {0}) Fault → ℕ
verdict (Ok _) = 0
verdict (Err e) = number e

-- The reader of the lines that a file run lists: each record that the run accepted, with what its line says.
use Rattle.std.specs.Prelude.{ℕ, zero, suc, ◌+◌, ◌-◌, ◌*◌, cond, List, [], ◌∷◌, map, get_or, take, drop, eqb}
use Rattle.model.specs.Tables.{no_sums}
use Rattle.model.specs.Records.{after_record}
use Rattle.model.specs.Runs.{RunOutcome}
use Rattle.model.specs.declared.Name.{Name}
use Rattle.consistency.specs.Entries.{name, Line, Entry, listed}

-- the parts between bytes x
unfoldable pub first : ℕ → List (List ℕ) → List (List ℕ)
first b [] = (b ∷ []) ∷ []
first b (p ∷ ps) = (b ∷ p) ∷ ps

unfoldable pub split : ℕ → List ℕ → List (List ℕ)
split x [] = [] ∷ []
split x (b ∷ s) = cond (eqb b x) ([] ∷ split x s) (first b (split x s))

-- decimal digits after those already read
unfoldable pub number_from : ℕ → List ℕ → ℕ
number_from k [] = k
number_from k (b ∷ s) = number_from (k * 10 + (b - 48)) s

abbrev pub number_in : List ℕ → ℕ
number_in s = number_from 0 s

-- 'sender.number'
unfoldable pub name_in : List ℕ → Name
name_in s = let ps = split 46 s in name (number_in (get_or ps 0 [])) (number_in (get_or ps 1 []))

-- A line's fields, separated by spaces: event number, controller, what was added, what was withdrawn, names.
unfoldable pub line_in : List (List ℕ) → Line
line_in fs = record {
  set = map name_in (drop 4 fs);
  sums = record { added = number_in (get_or fs 2 []); withdrawn = number_in (get_or fs 3 []) };
}

-- an event without a line applied nothing
abbrev pub no_line : Line
no_line = record { set = []; sums = no_sums }

-- the line of event e
unfoldable pub line_for : ℕ → List (List ℕ) → Line
line_for e [] = no_line
line_for e (l ∷ ls) =
    let fs = split 32 l in
    cond (eqb (number_in (get_or fs 0 [])) e) (line_in fs) (line_for e ls)

-- k records of s, the first of them event e
unfoldable pub record_entries : ℕ → ℕ → List ℕ → List (List ℕ) → List Entry
record_entries zero e s ls = []
record_entries (suc k) e s ls = listed s (line_for e ls) ∷ record_entries k (e + 1) (after_record s) ls

-- "the records it accepted stand first as calls, its listing lines give their sets", and their sums
unfoldable pub file_entries : List ℕ → RunOutcome → List Entry
file_entries s o = record_entries o.answer.events 1 (drop 2 s) (split 10 (take o.answer.written o.listing))

-- The record that the bytes begin with: cut off, or not there whole (question 5), and then asked and decoded.
use Rattle.std.specs.Prelude.{ℕ, ◌+◌, Bool, cond, List, [], ◌∷◌, length, ltb, Option, Some, None, Result, Ok, Err}
use Rattle.model.specs.Records.{size, decode}
use Rattle.model.specs.Refusals.{refusal_number}
use Rattle.model.specs.Questions.{ask, first_no}
use Rattle.records.specs.declared.Record.{Record}
use Rattle.records.specs.declared.RefusedRecord.{RefusedRecord}

-- the length byte and all the bytes it counts are there
abbrev pub whole : List ℕ → Bool
whole s = ltb (size s) (length s)

-- what the cutter finds: the number of question 5, or 0, and how many bytes follow the length byte, 0 if refused
pub record Found : Type 0 where
  pub refusal : ℕ
  pub size : ℕ

abbrev pub cut : List ℕ → Found
cut s = record { refusal = first_no (ask 5 (whole s) ∷ []); size = cond (whole s) (size s) 0 }

-- the same as each case of the cutter's answer gives it
abbrev pub found : Option ℕ → Found
found (Some k) = record { refusal = 0; size = k }
found None = record { refusal = 5; size = 0 }

-- the bytes of the longest record, a write
abbrev pub longest_record : ℕ
longest_record = 8

-- the record that the bytes of a file of version v begin with: how many bytes it takes, and decoded
abbrev pub record_of : ℕ → List ℕ → Record
record_of v s = record { used = size s + 1; command = decode v s }

-- the number of a record that was read: 0 if no question refuses it, and else that of its refusal
abbrev pub record_refusal : Result Record RefusedRecord → ℕ
record_refusal (Ok r) = 0
record_refusal (Err r) = refusal_number r.refusal

-- The records of a run file: a length byte, a kind byte, fields; and what a record asks for.
use Rattle.std.specs.Prelude.{ℕ, ◌+◌, ◌-◌, ◌*◌, cond, List, [], ◌∷◌, get_or, drop, eqb, ltb}
use Rattle.model.specs.Tables.{report_kind, sync_kind, write_kind, report, sync, write}
use Rattle.model.specs.declared.Payload.{Payload}
use Rattle.model.specs.declared.Event.TheVariants.{Send, Handover, Stop}
use Rattle.model.specs.declared.Command.{Command}
use Rattle.model.specs.declared.Command.TheVariants.{Act, Read}

-- byte i; 0 past the end
abbrev pub byte : List ℕ → ℕ → ℕ
byte s i = get_or s i 0

-- the length byte of the first record, and what stands after that record
abbrev pub size : List ℕ → ℕ
size s = byte s 0

unfoldable pub after_record : List ℕ → List ℕ
after_record s = drop (size s + 1) s

abbrev pub kind : List ℕ → ℕ
kind s = byte s 1

-- two bytes, the high one first
abbrev pub word : List ℕ → ℕ → ℕ
word s i = byte s i * 256 + byte s (i + 1)

-- four bytes, the high one first
abbrev pub long : List ℕ → ℕ → ℕ
long s i = word s i * 65536 + word s (i + 2)

-- the lengths of the kinds 1 report, 2 sync, 3 handover, 4 stop, 5 local read, 6 write, in files of version v: in version 2 a report has
-- a class byte more
unfoldable pub size_of : ℕ → ℕ → ℕ
size_of v k = get_or (0 ∷ cond (eqb v 2) 5 4 ∷ 2 ∷ 3 ∷ 4 ∷ 2 ∷ 7 ∷ []) k 0

-- the class of a report: the byte after the amount in version 2, and 0 in version 1
unfoldable pub report_class : ℕ → List ℕ → ℕ
report_class v s = cond (eqb v 2) (byte s 5) 0

-- a report of class k, its amount in two's complement, as what it adds and what it withdraws
unfoldable pub reported : ℕ → ℕ → Payload
reported k x = cond (ltb x 32768) (report k x 0) (report k 0 (65536 - x))

-- what a record of kind 1 to 6 and of that kind's length asks for
unfoldable pub decode : ℕ → List ℕ → Command
decode v s =
    cond (eqb (kind s) report_kind) (Act (Send (byte s 2) (reported (report_class v s) (word s 3))))
    (cond (eqb (kind s) sync_kind) (Act (Send (byte s 2) sync))
    (cond (eqb (kind s) 3) (Act (Handover (byte s 2) (byte s 3)))
    (cond (eqb (kind s) 4) (Act (Stop (byte s 2) (word s 3)))
    (cond (eqb (kind s) write_kind) (Act (Send (byte s 2) (write (byte s 3) (long s 4))))
    (Read (byte s 2))))))

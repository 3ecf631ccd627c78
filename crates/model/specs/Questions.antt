-- The questions and their order (RULES.md, sections 13 and 14): the refusal is the number of the first no.
use Rattle.std.specs.Prelude.{ℕ, suc, ◌≤◌, ◌<◌, ◌≡◌, Bool, true, not, ◌&&◌, ◌||◌, cond, List, [], ◌∷◌, ◌++◌, length, eqb, leb, ltb}
use Rattle.lists.specs.Below.{count, all, greatest}
use Rattle.model.specs.Tables.{Messages, seats, capacity, scratch_size, report_kind, sync_kind, write_kind, last_kind, yes?, controller_in, message_in, at, messages_of, in_buffer, flagged, place}
use Rattle.model.specs.Events.{number_of}
use Rattle.model.specs.Records.{byte, size, kind, size_of, decode}
use Rattle.model.specs.Fair.{named, fair_amount, fair_class, fair_register, known}
use Rattle.model.specs.WellFormed.{well_formed}
use Rattle.model.specs.declared.Payload.{Payload}
use Rattle.model.specs.declared.Message.{Message}
use Rattle.model.specs.declared.Pending.{Pending}
use Rattle.model.specs.declared.Controller.{Controller}
use Rattle.model.specs.declared.Table.{Table}
use Rattle.model.specs.declared.Event.{Event}
use Rattle.model.specs.declared.Event.TheVariants.{Send, Handover, Stop}
use Rattle.model.specs.declared.Command.{Command}
use Rattle.model.specs.declared.Command.TheVariants.{Act, Read}

-- a question: its number, and whether the answer is yes
pub record Question : Type 0 where
  pub number : ℕ
  pub yes : Bool

abbrev pub ask : ℕ → Bool → Question
ask k b = record { number = k; yes = b }

-- the number of the first no; 0 if there is none
unfoldable pub first_no : List Question → ℕ
first_no [] = 0
first_no (q ∷ qs) = let r = first_no qs in cond q.yes r q.number

-- questions 2 and 3, of a version and a number of controllers: put to a file, and to a request for a fresh table
unfoldable pub fresh_questions : ℕ → ℕ → List Question
fresh_questions v n = ask 2 (known v) ∷ ask 3 (ltb 0 n && leb n seats) ∷ []

-- what the answer yes to both says
pub record FreshAllowed (v n : ℕ) : Type 0 where
  pub version : known v ≡ true
  pub some : 0 < n
  pub few : n ≤ seats

-- questions 1 to 3, put to a file
abbrev pub longest_file : ℕ
longest_file = 65535

unfoldable pub file_questions : List ℕ → List Question
file_questions s = ask 1 (leb 2 (length s) && leb (length s) longest_file) ∷ fresh_questions (byte s 0) (byte s 1)

-- question 4, put to every call that is lent a table
unfoldable pub lent_table : Table → Question
lent_table t = ask 4 (well_formed t)

-- questions 4 and 8, of a table that is lent to be looked at, and of a controller
unfoldable pub look_questions : Table → ℕ → List Question
look_questions t c = lent_table t ∷ ask 8 (named t.n c) ∷ []

-- questions 6 and 7, in version v, of a record of kind k with n bytes after its length byte
unfoldable pub kind_questions : ℕ → ℕ → ℕ → List Question
kind_questions v n k = ask 6 (ltb 0 n && (ltb 0 k && leb k last_kind)) ∷ ask 7 (eqb n (size_of v k)) ∷ []

-- questions 5 to 7, of the record that the bytes begin with
unfoldable pub record_questions : ℕ → List ℕ → List Question
record_questions v s = ask 5 (ltb (size s) (length s)) ∷ kind_questions v (size s) (kind s)

-- 11 and 18: c has a message of its own in its buffer P
unfoldable pub own_pending : Messages → List Pending → ℕ → Bool
own_pending M P c = ltb 0 (count M.count (λ s. in_buffer P s && eqb (message_in M.slots s).sender c))

-- 20: the latest message of c, that with its greatest number, is a sync that c has applied, by the flags A
unfoldable pub latest : Messages → ℕ → ℕ
latest M c = greatest M.count (λ s. number_of c (message_in M.slots s))

abbrev pub is_sync : ℕ → ℕ → Message → Bool
is_sync c k m = eqb m.payload.kind sync_kind && (eqb m.sender c && eqb m.number.0 k)

unfoldable pub synced : Messages → List ℕ → ℕ → Bool
synced M A c =
    let k = latest M c in
    ltb 0 (count M.count (λ s. flagged A s && is_sync c k (message_in M.slots s)))

-- 13: the log of o, which is y, has an entry that x has not read
unfoldable pub unread : Controller → Controller → ℕ → Bool
unread x y o = ltb (place x o) y.length

-- 14: the log of c can be cut to k entries: none of n controllers has read more
unfoldable pub keepable : ℕ → List Controller → ℕ → ℕ → Bool
keepable n C c k = leb k (controller_in C c).length && all n (λ r. leb (place (controller_in C (suc r)) c) k)

-- of what a message says, in version v
unfoldable pub payload_questions : ℕ → Payload → List Question
payload_questions v p = ask 9 (fair_amount p) ∷ ask 17 (fair_class v p) ∷ ask 19 (fair_register p) ∷ []

-- of its sender c, which is x: 11 is not put to a report, which may follow on pending ones, and 20 is put to a write alone
unfoldable pub sender_questions : Messages → Controller → ℕ → Payload → List Question
sender_questions M x c p =
    ask 10 (yes? x.running)
    ∷ ask 11 (eqb p.kind report_kind || not (own_pending M x.pending c))
    ∷ ask 12 (ltb M.count capacity)
    ∷ ask 20 (not (eqb p.kind write_kind) || synced M x.applied c)
    ∷ []

-- of a report, sync or write
unfoldable pub send_questions : ℕ → ℕ → Messages → Controller → ℕ → Payload → List Question
send_questions v n M x c p = ask 8 (named n c) ∷ (payload_questions v p ++ sender_questions M x c p)

-- of a handover to r, which is x, from the log of o, which is y
unfoldable pub handover_questions : ℕ → Controller → Controller → ℕ → ℕ → List Question
handover_questions n x y r o = ask 8 (named n r && named n o) ∷ ask 10 (yes? x.running) ∷ ask 13 (unread x y o) ∷ []

-- of a stop of c, whose log keeps k entries
unfoldable pub stop_questions : ℕ → List Controller → ℕ → ℕ → List Question
stop_questions n C c k = ask 8 (named n c) ∷ ask 10 (yes? (controller_in C c).running) ∷ ask 14 (keepable n C c k) ∷ []

-- of a local read of c, which is x
unfoldable pub read_questions : ℕ → Messages → Controller → ℕ → List Question
read_questions n M x c = ask 8 (named n c) ∷ ask 10 (yes? x.running) ∷ ask 18 (not (own_pending M x.pending c)) ∷ []

-- questions 8 to 14, 17, 19 and 20, by the kind of event
unfoldable pub event_questions : Table → Event → List Question
event_questions t (Send c p) = send_questions t.version t.n (messages_of t) (at t c) c p
event_questions t (Handover r o) = handover_questions t.n (at t r) (at t o) r o
event_questions t (Stop c k) = stop_questions t.n t.controllers c k

-- questions 8 to 14 and 17 to 20, of what a record asks for
unfoldable pub command_questions : Table → Command → List Question
command_questions t (Act e) = event_questions t e
command_questions t (Read c) = read_questions t.n (messages_of t) (at t c) c

-- question 15, of a scratch area of `room` bytes
unfoldable pub scratch_room : ℕ → Question
scratch_room room = ask 15 (leb scratch_size room)

-- questions 5 to 15 and 17 to 20, the record's bytes read as the table's version says
unfoldable pub step_questions : Table → List ℕ → ℕ → List Question
step_questions t s room = record_questions t.version s ++ (command_questions t (decode t.version s) ++ (scratch_room room ∷ []))

-- question 16: a line of `line` bytes fits in the `left` bytes of the listing that are left
unfoldable pub line_fits : ℕ → ℕ → Question
line_fits line left = ask 16 (leb line left)

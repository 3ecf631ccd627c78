-- The table: its limits, what stands in it, and how one part of it is replaced.
-- Words: a controller is a process, a log its fifo-broadcast, pending its buffer, applied what it has scd-delivered.
use Rattle.std.specs.Prelude.{ℕ, ◌+◌, ◌-◌, ◌≤◌, ◌<◌, Bool, List, [], get_or, set, replicate, ltb}
use Rattle.model.specs.declared.ForwardNumber.{ForwardNumber}
use Rattle.model.specs.declared.MessageNumber.{MessageNumber}
use Rattle.model.specs.declared.Payload.{Payload}
use Rattle.model.specs.declared.Message.{Message}
use Rattle.model.specs.declared.Name.{Name}
use Rattle.model.specs.declared.Pending.{Pending}
use Rattle.model.specs.declared.Controller.{Controller}
use Rattle.model.specs.declared.Sums.{Sums}
use Rattle.model.specs.declared.Register.{Register}
use Rattle.model.specs.declared.Panel.{Panel}
use Rattle.model.specs.declared.Table.{Table}

-- LIMITS

-- the most controllers of a run, and the most messages
abbrev pub seats : ℕ
seats = 7

abbrev pub capacity : ℕ
capacity = 64

-- weight classes: 1 XL, 2 L, 3 M, 4 S, and 0 for reports of version 1, which name none
abbrev pub last_class : ℕ
last_class = 4

abbrev pub class_count : ℕ
class_count = 5

-- registers (set points), from 1
abbrev pub register_count : ℕ
register_count = 8

-- the scratch bytes that an event asks for, one for each message that can be pending
abbrev pub scratch_size : ℕ
scratch_size = capacity

-- c is one of n controllers
pub record Among (n c : ℕ) : Type 0 where
  pub low : 0 < c
  pub high : c ≤ n

-- greater than every forward number, and not less than itself
abbrev pub absent : ℕ
absent = 255

-- a flag is 0 for no and anything else for yes
abbrev pub yes? : ℕ → Bool
yes? f = ltb 0 f

-- MESSAGES

-- what a message is, by the kind of its record
abbrev pub report_kind : ℕ
report_kind = 1

abbrev pub sync_kind : ℕ
sync_kind = 2

abbrev pub write_kind : ℕ
write_kind = 6

-- the last kind of a record
abbrev pub last_kind : ℕ
last_kind = write_kind

-- a report's class, what it adds and what it withdraws; class 0 is none
abbrev pub report : ℕ → ℕ → ℕ → Payload
report k a w = record { kind = report_kind; class = k; added = a; withdrawn = w; reg = 0; value = 0 }

abbrev pub sync : Payload
sync = record { kind = sync_kind; class = 0; added = 0; withdrawn = 0; reg = 0; value = 0 }

-- the register that a write sets, and the value that it gives
abbrev pub write : ℕ → ℕ → Payload
write r x = record { kind = write_kind; class = 0; added = 0; withdrawn = 0; reg = r; value = x }

-- a place in a log, and a sender's number: separate counters, each from 1
abbrev pub forward_number : ℕ → ForwardNumber
forward_number k = record { 0 = k }

abbrev pub message_number : ℕ → MessageNumber
message_number k = record { 0 = k }

-- what its sender gives a message besides: a number, and the date of a write, 0 for any other
abbrev pub message_of : ℕ → MessageNumber → ℕ → Payload → Message
message_of c k d p = record { sender = c; number = k; date = d; payload = p }

-- WHAT STANDS PAST THE END OF AN ARRAY, as in every read of the language: zero, and no elements

abbrev pub none : MessageNumber
none = record { 0 = 0 }

abbrev pub no_name : Name
no_name = record { sender = 0; number = none }

abbrev pub no_message : Message
no_message = message_of 0 none 0 (record { kind = 0; class = 0; added = 0; withdrawn = 0; reg = 0; value = 0 })

-- "registers 1 to 8, each starting at 0"; "Stamps start at 0, 0."
abbrev pub no_register : Register
no_register = record { value = 0; stamp = record { date = 0; writer = 0 } }

-- the sums over no message, and a panel that shows nothing, as refusals answer them
abbrev pub no_sums : Sums
no_sums = record { added = 0; withdrawn = 0 }

abbrev pub no_panel : Panel
no_panel = record { sums = no_sums; classes = replicate class_count no_sums; registers = replicate register_count no_register }

abbrev pub no_pending : Pending
no_pending = record { held = 0; marks = [] }

abbrev pub no_controller : Controller
no_controller = record { length = 0; log = []; read = []; pending = []; applied = []; highest = []; running = 0 }

-- A TABLE IN WHICH NOTHING WAS SENT

-- not pending, with every mark so
abbrev pub unmarked : ℕ → Pending
unmarked m = record { held = 0; marks = replicate seats (record { 0 = m }) }

-- not pending: every mark is absent
abbrev pub unheld : Pending
unheld = unmarked absent

-- a controller that has done nothing, with this flag and these marks
unfoldable pub idle : ℕ → ℕ → Controller
idle f m = record { length = 0; log = replicate capacity 0; read = replicate seats 0; pending = replicate capacity (unmarked m); applied = replicate capacity 0; highest = replicate seats none; running = f }

unfoldable pub start : ℕ → ℕ → ℕ → ℕ → Table
start v n f m = record { version = v; n = n; count = 0; messages = replicate capacity no_message; controllers = replicate seats (idle f m) }

-- its records are read in version v, and all n controllers run
unfoldable pub fresh : ℕ → ℕ → Table
fresh v n = start v n 1 absent

-- every field is zero
unfoldable pub zero_table : Table
zero_table = start 0 0 0 0

-- READS

-- controller c, from 1, of an array of controllers, and of a table
unfoldable pub controller_in : List Controller → ℕ → Controller
controller_in C c = get_or C (c - 1) no_controller

abbrev pub at : Table → ℕ → Controller
at t c = controller_in t.controllers c

-- the message of slot s, of an array of messages, and of a table
unfoldable pub message_in : List Message → ℕ → Message
message_in M s = get_or M s no_message

abbrev pub message : Table → ℕ → Message
message t s = message_in t.messages s

-- THE MESSAGES OF A RUN: how many were sent, and the array that has them, each in its slot
pub record Messages : Type 0 where
  pub count : ℕ
  pub slots : List Message

-- the first k of an array, and those of a table
abbrev pub first_of : ℕ → List Message → Messages
first_of k M = record { count = k; slots = M }

abbrev pub messages_of : Table → Messages
messages_of t = first_of t.count t.messages

-- READS OF A CONTROLLER

-- the slot at place k, from 0, of a log
abbrev pub slot_at : Controller → ℕ → ℕ
slot_at c k = get_or c.log k 0

-- how many entries of the log of o were read
abbrev pub place : Controller → ℕ → ℕ
place c o = get_or c.read (o - 1) 0

-- the buffer's entry of slot s, and whether s is in the buffer
abbrev pub entry : List Pending → ℕ → Pending
entry P s = get_or P s no_pending

abbrev pub in_buffer : List Pending → ℕ → Bool
in_buffer P s = yes? (entry P s).held

abbrev pub held : Controller → ℕ → Bool
held c s = in_buffer c.pending s

-- the forward number of controller f, from 0, for a buffered message
abbrev pub mark : Pending → ℕ → ℕ
mark p f = (get_or p.marks f (record { 0 = 0 })).0

-- whether slot s is flagged, and whether it was applied
abbrev pub flagged : List ℕ → ℕ → Bool
flagged A s = yes? (get_or A s 0)

abbrev pub applied : Controller → ℕ → Bool
applied c s = flagged c.applied s

-- the highest number applied of sender x, from 1
abbrev pub highest : Controller → ℕ → ℕ
highest c x = (get_or c.highest (x - 1) none).0

-- REPLACEMENTS, one for each part that changes

unfoldable pub with_controller : Table → ℕ → Controller → Table
with_controller t c x = record { version = t.version; n = t.n; count = t.count; messages = t.messages; controllers = set t.controllers (c - 1) x }

-- one message more, in the next slot
unfoldable pub with_message : Table → Message → Table
with_message t m = record { version = t.version; n = t.n; count = t.count + 1; messages = set t.messages t.count m; controllers = t.controllers }

-- a slot at the end of the log
abbrev pub with_entry : Controller → ℕ → Controller
with_entry c s = record { length = c.length + 1; log = set c.log c.length s; read = c.read; pending = c.pending; applied = c.applied; highest = c.highest; running = c.running }

-- one entry more of the log of o read
abbrev pub with_read : Controller → ℕ → Controller
with_read c o = record { length = c.length; log = c.log; read = set c.read (o - 1) (place c o + 1); pending = c.pending; applied = c.applied; highest = c.highest; running = c.running }

-- slot s in the buffer with these marks, and place k of controller o marked
abbrev pub with_mark : Controller → ℕ → List ForwardNumber → ℕ → ℕ → Controller
with_mark c s ms o k = record { length = c.length; log = c.log; read = c.read; pending = set c.pending s (record { held = 1; marks = set ms (o - 1) (forward_number k) }); applied = c.applied; highest = c.highest; running = c.running }

-- another buffer, and what was applied
abbrev pub with_delivered : Controller → List Pending → List ℕ → List MessageNumber → Controller
with_delivered c P A H = record { length = c.length; log = c.log; read = c.read; pending = P; applied = A; highest = H; running = c.running }

-- stopped, with the first k entries of the log
abbrev pub with_stop : Controller → ℕ → Controller
with_stop c k = record { length = k; log = c.log; read = c.read; pending = c.pending; applied = c.applied; highest = c.highest; running = 0 }

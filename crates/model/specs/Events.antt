-- The events (RULES.md, sections 6 to 10) and what each does to the table: lines 1 to 20 of Algorithm 1, the writes of
-- Algorithm 3, the counter of Algorithm 4, and the local read of Algorithm 5.
use Rattle.std.specs.Prelude.{ℕ, zero, suc, ◌+◌, max, Bool, ◌&&◌, ◌||◌, cond, List, [], ◌∷◌, get_or, eqb, leb, ltb}
use Rattle.lists.specs.Below.{count, sum, greatest}
use Rattle.lists.specs.Build.{tabulate}
use Rattle.model.specs.Tables.{Messages, seats, capacity, class_count, sync_kind, message_number, message_of, unheld, message_in, at, messages_of, flagged, slot_at, place, entry, held, highest, with_controller, with_message, with_entry, with_read, with_mark, with_delivered, with_stop}
use Rattle.model.specs.Registers.{registers, date_of}
use Rattle.model.specs.Delivery.{Slots, has}
use Rattle.model.specs.Rounds.{applicable}
use Rattle.model.specs.declared.Payload.{Payload}
use Rattle.model.specs.declared.Message.{Message}
use Rattle.model.specs.declared.Name.{Name}
use Rattle.model.specs.declared.Controller.{Controller}
use Rattle.model.specs.declared.Sums.{Sums}
use Rattle.model.specs.declared.Panel.{Panel}
use Rattle.model.specs.declared.Table.{Table}
use Rattle.model.specs.declared.Event.{Event}
use Rattle.model.specs.declared.Event.TheVariants.{Send, Handover, Stop}
use Rattle.model.specs.declared.Command.{Command}
use Rattle.model.specs.declared.Command.TheVariants.{Act, Read}

-- 1. REPORT, SYNC AND WRITE (scd-broadcast): lines 1 and 5 to 12 with i = sd = g

-- the message that x, which is controller c, sends after those of M: numbered by its log, and dated by the registers that it holds
unfoldable pub sent_message : Messages → Controller → ℕ → Payload → Message
sent_message M x c p = message_of c (message_number (x.length + 1)) (date_of M x.applied p) p

-- x, which is controller c, with a message of slot s: buffered with its own mark, and at the end of its log
unfoldable pub sent : ℕ → Controller → ℕ → Controller
sent s x c = with_mark (with_entry x s) s unheld.marks c (x.length + 1)

-- 2. HANDOVER (fifo-delivery from o): lines 3 to 14

-- Entry m of slot s at place k, from 1, of the log of o: passed over, marked, or buffered and forwarded.
unfoldable pub forward : Controller → Message → ℕ → ℕ → ℕ → Controller
forward c m s o k =
    cond (leb m.number.0 (highest c m.sender)) c
    (cond (held c s) (with_mark c s (entry c.pending s).marks o k)
    (with_mark (with_entry c s) s unheld.marks o k))

-- the slot that x reads next in the log of o, which is y
unfoldable pub next_slot : Controller → Controller → ℕ → ℕ
next_slot x y o = slot_at y (place x o)

-- x after it has read that entry, and before it applies
unfoldable pub received : Messages → Controller → Controller → ℕ → Controller
received M x y o =
    let s = next_slot x y o in
    forward (with_read x o) (message_in M.slots s) s o (place x o + 1)

-- the set that x, one of n controllers, then applies
unfoldable pub handover_set : ℕ → Messages → Controller → Controller → ℕ → Slots
handover_set n M x y o = applicable n (received M x y o).pending

-- 3. APPLY (scd-delivery): lines 17 to 20

-- the number of a message of sender x; 0 for another's
unfoldable pub number_of : ℕ → Message → ℕ
number_of x m = cond (eqb m.sender x) m.number.0 0

-- the highest number of sender x, from 1, in S
unfoldable pub highest_in : Messages → Slots → ℕ → ℕ
highest_in M S x = greatest M.count (λ s. let k = number_of x (message_in M.slots s) in cond (has S s) k 0)

-- The slots of S leave the buffer as one; with S empty nothing changes.
unfoldable pub deliver : Messages → Controller → Slots → Controller
deliver M c S =
    with_delivered c
    (tabulate capacity (λ s. cond (has S s) unheld (entry c.pending s)))
    (tabulate capacity (λ s. cond (has S s) 1 (get_or c.applied s 0)))
    (tabulate seats (λ x. message_number (max (highest c (suc x)) (highest_in M S (suc x)))))

-- 4. STOP (crash), and every event

-- the controller that an event changes, and that controller afterwards
unfoldable pub subject : Event → ℕ
subject (Send c p) = c
subject (Handover r o) = r
subject (Stop c k) = c

unfoldable pub after : Table → Event → Controller
after t (Send c p) = sent t.count (at t c) c
after t (Handover r o) =
    let M = messages_of t in
    deliver M (received M (at t r) (at t o) o) (handover_set t.n M (at t r) (at t o) o)
after t (Stop c k) = with_stop (at t c) k

-- the table with the message that an event sends
unfoldable pub with_sent : Table → Event → Table
with_sent t (Send c p) = with_message t (sent_message (messages_of t) (at t c) c p)
with_sent t (Handover r o) = t
with_sent t (Stop c k) = t

unfoldable pub next : Table → Event → Table
next t e = with_controller (with_sent t e) (subject e) (after t e)

-- the set that an event applies
unfoldable pub applied_by : Table → Event → Slots
applied_by t (Send c p) = []
applied_by t (Handover r o) = handover_set t.n (messages_of t) (at t r) (at t o) o
applied_by t (Stop c k) = []

-- 5. LOCAL READ (Algorithm 5), and every record: a local read leaves the table as it is

-- the controller that it changes, or whose panel it reads
unfoldable pub controller_of : Command → ℕ
controller_of (Act e) = subject e
controller_of (Read c) = c

unfoldable pub resulting : Table → Command → Table
resulting t (Act e) = next t e
resulting t (Read c) = t

-- WHAT A PANEL SHOWS (the local counter): that of Algorithm 4, as two sums, over all messages and over each class; and the registers

-- the sum of a weight over the messages of M that A flags as applied
unfoldable pub weigh : (Payload → ℕ) → Messages → List ℕ → ℕ
weigh w M A = sum M.count (λ s. let v = w (message_in M.slots s).payload in cond (flagged A s) v 0)

-- each sum is over its own part of the amounts: those above 0, and those below 0 with the sign dropped
abbrev pub both_of : ((Payload → ℕ) → ℕ) → Sums
both_of f = record { added = f (λ p. p.added); withdrawn = f (λ p. p.withdrawn) }

-- sums added up, part by part
abbrev pub plus : Sums → Sums → Sums
plus y z = record { added = y.added + z.added; withdrawn = y.withdrawn + z.withdrawn }

-- the sums over what was applied
unfoldable pub sums : Messages → List ℕ → Sums
sums M A = both_of (λ w. weigh w M A)

-- a weight of the payloads of class k alone
abbrev pub of_class : ℕ → (Payload → ℕ) → Payload → ℕ
of_class k w p = cond (eqb p.class k) (w p) 0

-- the same of class k
unfoldable pub class_sums : Messages → List ℕ → ℕ → Sums
class_sums M A k = both_of (λ w. weigh (of_class k w) M A)

-- the panel of a controller that has applied what A flags: the sums, those of each class from 0, and the registers
unfoldable pub shown : Messages → List ℕ → Panel
shown M A = record { sums = sums M A; classes = tabulate class_count (class_sums M A); registers = registers M A }

-- the panel of controller c
unfoldable pub panel_of : Table → ℕ → Panel
panel_of t c = shown (messages_of t) (at t c).applied

-- NAMES

abbrev pub name_of : Message → Name
name_of m = record { sender = m.sender; number = m.number }

-- by sender and then number
unfoldable pub earlier : Name → Name → Bool
earlier a b = ltb a.sender b.sender || (eqb a.sender b.sender && ltb a.number.0 b.number.0)

unfoldable pub insert : Name → List Name → List Name
insert x [] = x ∷ []
insert x (y ∷ ys) = cond (earlier x y) (x ∷ y ∷ ys) (y ∷ insert x ys)

-- the names of the slots of S below k, in that order
unfoldable pub names_below : ℕ → List Message → Slots → List Name
names_below zero M S = []
names_below (suc k) M S =
    let r = names_below k M S in
    let more = insert (name_of (message_in M k)) r in
    cond (has S k) more r

unfoldable pub names_of : Messages → Slots → List Name
names_of M S = names_below M.count M.slots S

-- whether S holds a sync that c sent: c then gets its answer
unfoldable pub finishes : Messages → Slots → ℕ → Bool
finishes M S c =
    ltb 0 (count M.count (λ s. let m = message_in M.slots s in has S s && (eqb m.payload.kind sync_kind && eqb m.sender c)))

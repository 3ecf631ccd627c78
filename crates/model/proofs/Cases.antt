-- The cases of RULES.md, section 23 (Edges), that are marked P; and of each call, for each two questions that it is put one after the other and that can
-- both be no at once, a row in which both are and the first gives the number. One table, one theorem.
-- Assumes nothing.
use mathlib.Core.Path.{◌≡◌, refl}
use Prim.Native.Nat.{ℕ, zero, suc, ◌+◌, ◌*◌, ◌/◌, ◌%◌, ◌-◌}
use mathlib.Core.Bool.{Bool, true, false, cond}
use mathlib.Core.List.{List, [], ◌∷◌, ◌++◌, map, flatten}
use lib.ListN.{replicate}
use lib.Dec.{eqb}
use Rattle.model.specs.Tables.{message_number, no_sums, no_register, no_panel, fresh, at, with_controller, with_read}
use Rattle.model.specs.Calls.{EventAnswer, step, event, scratch_after, fresh_table, look, count_before}
use Rattle.model.specs.Runs.{progress, file_run}
use Rattle.model.specs.declared.Name.{Name}
use Rattle.model.specs.declared.Sums.{Sums}
use Rattle.model.specs.declared.Register.{Register}
use Rattle.model.specs.declared.Panel.{Panel}
use Rattle.model.specs.declared.Table.{Table}
use Rattle.model.proofs.Computed.{computed}

-- RECORDS

report : ℕ → ℕ → List ℕ
report c x = 4 ∷ 1 ∷ c ∷ x / 256 ∷ x % 256 ∷ []

-- of version 2, with its class
classed : ℕ → ℕ → ℕ → List ℕ
classed c x k = 5 ∷ 1 ∷ c ∷ x / 256 ∷ x % 256 ∷ k ∷ []

sync : ℕ → List ℕ
sync c = 2 ∷ 2 ∷ c ∷ []

handover : ℕ → ℕ → List ℕ
handover r o = 3 ∷ 3 ∷ r ∷ o ∷ []

stop : ℕ → ℕ → List ℕ
stop c k = 4 ∷ 4 ∷ c ∷ 0 ∷ k ∷ []

-- a local read
local : ℕ → List ℕ
local c = 2 ∷ 5 ∷ c ∷ []

-- a write of a register
write : ℕ → ℕ → ℕ → List ℕ
write c r x = 7 ∷ 6 ∷ c ∷ r ∷ x / 16777216 ∷ x / 65536 % 256 ∷ x / 256 % 256 ∷ x % 256 ∷ []

minus : ℕ → ℕ
minus x = 65536 - x

times : ℕ → List (List ℕ) → List (List ℕ)
times zero xs = []
times (suc k) xs = xs ++ times k xs

-- CASES: a version and n controllers; the records of accepted events; then a call

data Call : Type 0 where
  -- the single event: its bytes, and how many bytes of scratch
  single : List ℕ → ℕ → Call
  -- the panel look
  panel : ℕ → Call
  -- the count of "goes before": the controller, and two messages, each as 100 times its sender plus its number
  before : ℕ → ℕ → ℕ → Call

data Case : Type 0 where
  events : ℕ → ℕ → List (List ℕ) → Call → Case
  -- the count of "goes before" at each of n controllers, of one message and another and then of the other and the one: at the start and
  -- after each of the events
  counts : ℕ → List (List ℕ) → ℕ → ℕ → Case
  -- a single event after those of a list, lent 63, 64 and 65 bytes of scratch
  edge : ℕ → ℕ → List (List ℕ) → List ℕ → Case
  -- a look at controller 1 of two, in a fresh table but for its read position in its own log, which passes that log's end
  astray : Case
  -- a request for a fresh table
  request : ℕ → ℕ → Case
  -- a file, with no bytes lent
  file : List ℕ → Case
  -- the records of a file past question 3, and how many bytes of scratch and of listing
  run : List ℕ → ℕ → ℕ → Case
  -- a file, lent 63, 64 and 65 bytes of scratch
  file_edge : List ℕ → Case

-- the number; the set of each accepted event, a message as 100 times its sender plus its number, or what is counted, or what is left of each
-- scratch area; what a look shows, or in its sums the answer's sums; whether an own sync is finished; and the lines of a run
record Given : Type 0 where
  refusal : ℕ
  sets : List (List ℕ)
  shown : Panel
  finished : Bool
  lines : List ℕ

abbrev summed : Sums → Panel
summed z = record { sums = z; classes = no_panel.classes; registers = no_panel.registers }

abbrev coded : Name → ℕ
coded m = m.sender * 100 + m.number.0

abbrev name : ℕ → Name
name x = record { sender = x / 100; number = message_number (x % 100) }

-- the set of an accepted event; a refused one as 1000 plus its number
abbrev set_of : EventAnswer → List ℕ
set_of a = cond (eqb a.refusal 0) (map coded a.names) ((1000 + a.refusal) ∷ [])

called : Table → Call → Given
called t (single s room) =
    let a = (event t s room).answer in
    record { refusal = a.refusal; sets = cond (eqb a.refusal 0) (map coded a.names ∷ []) []; shown = summed a.sums; finished = a.finished; lines = [] }
called t (panel c) = let a = look t c in record { refusal = a.refusal; sets = []; shown = a.panel; finished = false; lines = [] }
called t (before c x y) =
    let a = count_before t c (name x) (name y) in
    record { refusal = a.refusal; sets = (a.count ∷ []) ∷ []; shown = no_panel; finished = false; lines = [] }

-- both counts, at controllers 1 to c
both_ways : Table → ℕ → ℕ → ℕ → List ℕ
both_ways t zero x y = []
both_ways t (suc c) x y = both_ways t c x y ++ ((count_before t (suc c) (name x) (name y)).count ∷ (count_before t (suc c) (name y) (name x)).count ∷ [])

tracked : Table → List (List ℕ) → ℕ → ℕ → List (List ℕ)
tracked t [] x y = both_ways t t.n x y ∷ []
tracked t (r ∷ rs) x y = both_ways t t.n x y ∷ tracked (step t r 64).table rs x y

played : Table → List (List ℕ) → Call → Given
played t [] c = called t c
played t (r ∷ rs) c =
    let o = step t r 64 in
    let g = played o.table rs c in
    record { refusal = g.refusal; sets = set_of o.answer ∷ g.sets; shown = g.shown; finished = g.finished; lines = [] }

-- the table that accepted events leave
left : Table → List (List ℕ) → Table
left t [] = t
left t (r ∷ rs) = left (step t r 64).table rs

-- the number that an event gives with k bytes of scratch, each 7, and what is left of these bytes; the same of a file
lent : Table → List ℕ → ℕ → List ℕ
lent t s k = let x = (event t s k).answer.refusal in x ∷ scratch_after x (replicate k 7)

lent_file : List ℕ → ℕ → List ℕ
lent_file s k = let o = file_run s [] (replicate k 7) in o.answer.refusal ∷ o.scratch

around : (ℕ → List ℕ) → Given
around f = record { refusal = 0; sets = f 63 ∷ f 64 ∷ f 65 ∷ []; shown = no_panel; finished = false; lines = [] }

given : Case → Given
given (events v n rs c) = played (fresh v n) rs c
given (counts n rs x y) = record { refusal = 0; sets = tracked (fresh 1 n) rs x y; shown = no_panel; finished = false; lines = [] }
given (edge v n rs s) = around (lent (left (fresh v n) rs) s)
given astray = let t = fresh 1 2 in called (with_controller t 1 (with_read (at t 1) 1)) (panel 1)
given (request v n) = record { refusal = (fresh_table v n).refusal; sets = []; shown = no_panel; finished = false; lines = [] }
given (file s) = record { refusal = (file_run s [] []).answer.refusal; sets = []; shown = no_panel; finished = false; lines = [] }
given (run s room space) =
    let p = progress s room space in
    record { refusal = p.refusal; sets = []; shown = no_panel; finished = false; lines = p.lines }
given (file_edge s) = around (lent_file s)

record Row : Type 0 where
  of : Case
  gives : Given

abbrev row : Case → ℕ → List (List ℕ) → Row
row c k ss = record { of = c; gives = record { refusal = k; sets = ss; shown = no_panel; finished = false; lines = [] } }

-- 63 bytes of scratch give 15 and are left as they were; 64 are enough, and become zero; a 65th is left
abbrev enough : Case → Row
enough c = row c 0 ((15 ∷ replicate 63 7) ∷ (0 ∷ replicate 64 0) ∷ ((0 ∷ replicate 64 0) ++ (7 ∷ [])) ∷ [])

-- a run and its lines
abbrev lists : List ℕ → ℕ → ℕ → ℕ → List ℕ → Row
lists s room space k ls = record { of = run s room space; gives = record { refusal = k; sets = []; shown = no_panel; finished = false; lines = ls } }

-- accepted events before a single event, and their sets
abbrev case : ℕ → List (List ℕ) → List ℕ → ℕ → ℕ → List (List ℕ) → Row
case n rs s room k ss = row (events 1 n rs (single s room)) k ss

-- no event applies anything, and j are accepted; in version 1, and in version 2
abbrev quiet : ℕ → List (List ℕ) → List ℕ → ℕ → ℕ → ℕ → Row
quiet n rs s room k j = case n rs s room k (times j ([] ∷ []))

abbrev quiet₂ : ℕ → List (List ℕ) → List ℕ → ℕ → ℕ → ℕ → Row
quiet₂ n rs s room k j = row (events 2 n rs (single s room)) k (times j ([] ∷ []))

-- what was added and what was withdrawn
abbrev both : ℕ → ℕ → Sums
both a w = record { added = a; withdrawn = w }

-- a look shows the sums, and those of each class
abbrev shows : ℕ → ℕ → List (List ℕ) → ℕ → List (List ℕ) → Sums → List Sums → Row
shows v n rs c ss z zs = record { of = events v n rs (panel c); gives = record { refusal = 0; sets = ss; shown = record { sums = z; classes = zs; registers = no_panel.registers }; finished = false; lines = [] } }

-- a look shows these registers, and no sums
abbrev holds : ℕ → ℕ → List (List ℕ) → ℕ → List (List ℕ) → List Register → Row
holds v n rs c ss zs = record {
  of = events v n rs (panel c);
  gives = record { refusal = 0; sets = ss; shown = record { sums = no_sums; classes = no_panel.classes; registers = zs }; finished = false; lines = [] };
}

-- a value and its stamp
abbrev stamped : ℕ → ℕ → ℕ → Register
stamped x d c = record { value = x; stamp = record { date = d; writer = c } }

-- an event whose answer has these sums, and whether it finishes an own sync
abbrev sums : ℕ → ℕ → List (List ℕ) → List ℕ → List (List ℕ) → Bool → Sums → Row
sums v n rs s ss f z = record { of = events v n rs (single s 64); gives = record { refusal = 0; sets = ss; shown = summed z; finished = f; lines = [] } }

-- the run of RULES.md, section 19 (The worked run), but for its last record
worked : List (List ℕ)
unfolding report handover minus
worked =
    report 1 30 ∷ handover 1 1 ∷ handover 2 1 ∷ handover 1 2 ∷ report 3 (minus 2) ∷ handover 2 3 ∷ handover 2 2 ∷ handover 2 2 ∷ handover 3 2 ∷ handover 3 2 ∷ []

-- the run of RULES.md, section 8 (Apply), in which one taken out forces another out
forced : List (List ℕ)
unfolding report handover
forced =
    report 1 1 ∷ report 2 2 ∷ report 3 4 ∷ handover 2 1 ∷ handover 3 2 ∷ handover 1 3 ∷ handover 1 2 ∷ handover 1 2 ∷ handover 1 3 ∷ handover 1 1 ∷ []

-- This follows 1.1, 1.2, 2.1 and 2.2, whichever was sent first. When 2 then reads 1.1 in log 3, 1.2 is taken out: it does not go before 2.2,
-- which is no candidate. 2.1 goes before 2.2, and 1.2 forces it out. 1.1 is applied.
overtaken : List (List ℕ)
unfolding handover times
overtaken = handover 3 1 ∷ handover 1 2 ∷ times 3 (handover 2 1 ∷ []) ++ times 4 (handover 2 2 ∷ [])

-- When 2 then reads 1.1 in log 3, 1.3 is taken out: it does not go before 2.4, which is no candidate. 1.3 forces 2.1 out, which goes before 2.4,
-- and 2.1 forces 1.2 out, which goes before 2.4 and 1.3. 1.1 is applied.
chained : List (List ℕ)
unfolding report handover times
chained =
    report 1 1 ∷ report 1 2 ∷ report 1 4 ∷ report 2 8 ∷ handover 3 1 ∷ handover 1 2 ∷ handover 2 1 ∷ handover 2 1 ∷ report 2 16 ∷ handover 2 1 ∷ handover 2 1
    ∷ times 5 (handover 2 2 ∷ [])

-- the run of RULES.md, section 25 (A run with classes), and its sets
graded : List (List ℕ)
unfolding classed handover minus
graded =
    classed 1 30 1 ∷ classed 2 12 3 ∷ handover 1 2 ∷ handover 2 1 ∷ handover 1 2 ∷ handover 1 1 ∷ handover 1 1 ∷ handover 2 1 ∷ handover 2 2 ∷ handover 2 2
    ∷ classed 2 (minus 2) 4 ∷ handover 1 2 ∷ handover 2 1 ∷ handover 1 1 ∷ handover 2 2 ∷ []

graded_sets : List (List ℕ)
unfolding times
graded_sets = times 6 ([] ∷ []) ++ ((101 ∷ 201 ∷ []) ∷ [] ∷ [] ∷ (101 ∷ 201 ∷ []) ∷ [] ∷ [] ∷ (203 ∷ []) ∷ (203 ∷ []) ∷ [] ∷ [])

-- the run of RULES.md, section 26 (A run with reports under way): its first seven records, and their sets; and all but the last
underway : List (List ℕ)
unfolding report handover local
underway = report 1 30 ∷ report 1 20 ∷ handover 2 1 ∷ handover 2 2 ∷ local 2 ∷ handover 2 1 ∷ handover 1 2 ∷ []

further : List (List ℕ)
unfolding underway handover local
further = underway ++ (handover 1 2 ∷ local 1 ∷ handover 3 1 ∷ handover 3 1 ∷ handover 3 2 ∷ [])

underway_sets : List (List ℕ)
underway_sets = [] ∷ [] ∷ [] ∷ (101 ∷ []) ∷ [] ∷ [] ∷ (101 ∷ []) ∷ []

-- log 1 is of length 3, and read to place 2
three : List (List ℕ)
unfolding report handover
three = report 1 5 ∷ report 2 5 ∷ report 3 5 ∷ handover 1 2 ∷ handover 1 3 ∷ handover 2 1 ∷ handover 2 1 ∷ []

-- a report of 1, which 1 has read in the logs of all below k, and k has in its log
backed : ℕ → List (List ℕ)
unfolding report handover
backed zero = []
backed (suc zero) = report 1 5 ∷ []
backed (suc (suc k)) = backed (suc k) ++ (handover 1 (suc k) ∷ handover (suc (suc k)) 1 ∷ [])

-- of n controllers, it takes the marks of m to apply a report
abbrev takes : ℕ → ℕ → Row
takes n m = case n (backed m) (handover 1 m) 64 0 (times (2 * m - 1) ([] ∷ []) ++ ((101 ∷ []) ∷ []))

-- a machine of one sends a sync and then a write, and applies each
set : ℕ → ℕ → List (List ℕ)
unfolding sync write handover
set r x = sync 1 ∷ handover 1 1 ∷ write 1 r x ∷ handover 1 1 ∷ []

-- Both controllers send, and apply what was sent as one: first their syncs, so that each knows the same dates, then a write of register 3.
settled : List (List ℕ)
unfolding handover
settled = handover 1 2 ∷ handover 2 1 ∷ handover 1 1 ∷ handover 1 1 ∷ handover 1 2 ∷ handover 2 2 ∷ handover 2 2 ∷ handover 2 1 ∷ []

rivals : List (List ℕ)
unfolding settled sync write
rivals = sync 1 ∷ sync 2 ∷ settled ++ (write 1 3 700 ∷ write 2 3 500 ∷ settled)

rival_sets : List (List ℕ)
unfolding times
rival_sets =
    let once : ℕ → List (List ℕ) = λ k. times 6 ([] ∷ []) ++ (((100 + k) ∷ (200 + k) ∷ []) ∷ [] ∷ [] ∷ ((100 + k) ∷ (200 + k) ∷ []) ∷ []) in
    once 1 ++ once 3

-- the list of RULES.md, section 29 (A list with a stale read): its first three records, and their sets; and all before the sync is finished
finished : List (List ℕ)
unfolding report handover
finished = report 1 30 ∷ handover 2 1 ∷ handover 1 2 ∷ []

asked : List (List ℕ)
unfolding finished local sync handover
asked = finished ++ (local 2 ∷ sync 2 ∷ handover 1 2 ∷ handover 2 1 ∷ [])

finished_sets : List (List ℕ)
finished_sets = [] ∷ [] ∷ (101 ∷ []) ∷ []

-- of two controllers, 2 has finished a write of register 1; and then 1 a sync
wrote : List (List ℕ)
unfolding sync write handover
wrote = sync 2 ∷ handover 1 2 ∷ handover 2 1 ∷ write 2 1 1500 ∷ handover 1 2 ∷ handover 2 1 ∷ []

wrote_sets : List (List ℕ)
wrote_sets = [] ∷ [] ∷ (201 ∷ []) ∷ [] ∷ [] ∷ (202 ∷ []) ∷ []

sought : List (List ℕ)
unfolding wrote sync handover
sought = wrote ++ (sync 1 ∷ handover 2 1 ∷ handover 1 2 ∷ handover 1 1 ∷ handover 1 1 ∷ [])

-- of four controllers, 1 has sent two messages, and 2 has two marks for the first; then 1 stops, and the second is cut off
heard : List (List ℕ)
unfolding report handover stop
heard = report 1 5 ∷ report 1 6 ∷ handover 2 1 ∷ handover 2 2 ∷ stop 1 1 ∷ []

-- how many controllers then put the one before the other at c
counted : ℕ → ℕ → ℕ → ℕ → Row
unfolding heard
counted c x y k = row (events 1 4 heard (before c x y)) 0 ([] ∷ [] ∷ [] ∷ [] ∷ [] ∷ (k ∷ []) ∷ [])

-- k reports of one sender, all under way
full : ℕ → List (List ℕ)
unfolding report times
full k = times k (report 1 1 ∷ [])

-- the sets of k messages of a machine of one, each applied before the next is sent; x is the first
each : ℕ → ℕ → List (List ℕ)
each zero x = []
each (suc k) x = [] ∷ (x ∷ []) ∷ each k (suc x)

-- k names, of which x is the first
numbered : ℕ → ℕ → List ℕ
numbered zero x = []
numbered (suc k) x = x ∷ numbered k (suc x)

table : List Row
unfolding report classed sync handover stop local write minus times worked forced overtaken chained graded graded_sets underway further underway_sets three backed set settled rivals rival_sets finished asked finished_sets wrote wrote_sets sought heard counted full each numbered
table =
    -- The check ends at the first row that fails, and so rows that refuse an edit of a definition stand first.
    -- P: the sets of the worked run; event 10 applies nothing
    case 3 worked (handover 3 1) 64 0 ([] ∷ [] ∷ [] ∷ (101 ∷ []) ∷ [] ∷ [] ∷ (101 ∷ []) ∷ (301 ∷ []) ∷ [] ∷ [] ∷ (101 ∷ 301 ∷ []) ∷ [])
    -- P: one message that is taken out forces another out; event 11 applies all three
    ∷ case 3 forced (handover 1 1) 64 0 (times 10 ([] ∷ []) ++ ((101 ∷ 201 ∷ 301 ∷ []) ∷ []))
    -- P: n = 4, two marks: not applied; three: applied
    ∷ quiet 4 (report 1 5 ∷ handover 1 1 ∷ handover 2 1 ∷ []) (handover 1 2) 64 0 4
    ∷ case 4 (report 1 5 ∷ handover 1 1 ∷ handover 2 1 ∷ handover 1 2 ∷ handover 3 1 ∷ []) (handover 1 3) 64 0 ([] ∷ [] ∷ [] ∷ [] ∷ [] ∷ (101 ∷ []) ∷ [])
    -- P: how many put one message before another, at a controller that has stopped and has both pending
    ∷ counted 1 101 102 1
    ∷ counted 1 102 101 0
    -- P: a table in which a read position passes a log's end gives 4
    ∷ row astray 4 []
    -- a report: 8 before 9 before 10; 7 and 12 stand below
    ∷ quiet 1 [] (report 2 361) 0 8 0
    ∷ quiet 2 (stop 1 0 ∷ []) (report 1 361) 0 9 1
    ∷ quiet 2 (report 1 1 ∷ stop 1 1 ∷ []) (report 1 360) 0 10 2
    -- of version 2: 7 before 8, and 9 before 17 before 10
    ∷ quiet₂ 1 [] (report 2 361) 0 7 0
    ∷ quiet₂ 2 (stop 1 0 ∷ []) (classed 1 361 5) 0 9 1
    ∷ quiet₂ 2 (stop 1 0 ∷ []) (classed 1 360 5) 0 17 1
    ∷ quiet₂ 2 (stop 1 0 ∷ []) (classed 1 360 4) 0 10 1
    -- P: a local read counts what its panel has applied, in both versions; the answer's sums are else those of an own sync that is finished
    ∷ sums 1 1 [] (local 1) ([] ∷ []) false no_sums
    ∷ sums 2 1 (classed 1 30 2 ∷ handover 1 1 ∷ classed 1 (minus 37) 4 ∷ handover 1 1 ∷ []) (local 1) (each 2 101 ++ ([] ∷ [])) false (both 30 37)
    ∷ sums 1 2 (report 2 9 ∷ handover 1 2 ∷ []) (local 1) ([] ∷ [] ∷ [] ∷ []) false no_sums
    ∷ sums 1 1 (report 1 5 ∷ []) (handover 1 1) ([] ∷ (101 ∷ []) ∷ []) false no_sums
    ∷ sums 1 1 (report 1 5 ∷ handover 1 1 ∷ sync 1 ∷ []) (handover 1 1) ([] ∷ (101 ∷ []) ∷ [] ∷ (102 ∷ []) ∷ []) true (both 5 0)
    -- the sums over all that the receiver has then applied: before the set, and with it
    ∷ sums 1 1 (report 1 (minus 7) ∷ handover 1 1 ∷ report 1 5 ∷ handover 1 1 ∷ sync 1 ∷ []) (handover 1 1) (each 2 101 ++ ([] ∷ (103 ∷ []) ∷ [])) true (both 5 7)
    ∷ sums 1 1 (sync 1 ∷ report 1 5 ∷ report 1 (minus 360) ∷ []) (handover 1 1) ([] ∷ [] ∷ [] ∷ (101 ∷ 102 ∷ 103 ∷ []) ∷ []) true (both 5 360)
    -- P: each register has dates of its own, from 1; values 0 and 4,294,967,295; nothing is shown of a write that is pending
    ∷ holds 1 1 (set 1 7 ++ (set 1 4294967295 ++ (set 8 0 ++ (sync 1 ∷ handover 1 1 ∷ write 1 2 9 ∷ [])))) 1 (each 7 101 ++ ([] ∷ []))
    (stamped 4294967295 2 1 ∷ no_register ∷ no_register ∷ no_register ∷ no_register ∷ no_register ∷ no_register ∷ stamped 0 1 1 ∷ [])
    -- P: the date decides before the writer: of two rivals, 1 writes again after it has applied both
    ∷ holds 1 2 (rivals ++ (sync 1 ∷ handover 2 1 ∷ handover 1 2 ∷ write 1 3 900 ∷ handover 2 2 ∷ handover 2 1 ∷ handover 2 2 ∷ [])) 2
    (rival_sets ++ ([] ∷ [] ∷ (105 ∷ []) ∷ [] ∷ (105 ∷ []) ∷ [] ∷ (106 ∷ []) ∷ []))
    (no_register ∷ no_register ∷ stamped 900 2 1 ∷ no_register ∷ no_register ∷ no_register ∷ no_register ∷ no_register ∷ [])
    -- The others. P: the lines of the worked run, with both sums
    ∷ lists (1 ∷ 3 ∷ flatten (worked ++ (handover 3 1 ∷ []))) 64 16384 0
    (52 ∷ 32 ∷ 49 ∷ 32 ∷ 51 ∷ 48 ∷ 32 ∷ 48 ∷ 32 ∷ 49 ∷ 46 ∷ 49 ∷ 10
    ∷ 55 ∷ 32 ∷ 50 ∷ 32 ∷ 51 ∷ 48 ∷ 32 ∷ 48 ∷ 32 ∷ 49 ∷ 46 ∷ 49 ∷ 10
    ∷ 56 ∷ 32 ∷ 50 ∷ 32 ∷ 51 ∷ 48 ∷ 32 ∷ 50 ∷ 32 ∷ 51 ∷ 46 ∷ 49 ∷ 10
    ∷ 49 ∷ 49 ∷ 32 ∷ 51 ∷ 32 ∷ 51 ∷ 48 ∷ 32 ∷ 50 ∷ 32 ∷ 49 ∷ 46 ∷ 49 ∷ 32 ∷ 51 ∷ 46 ∷ 49 ∷ 10
    ∷ [])
    -- P: n = 1
    ∷ case 1 (report 1 5 ∷ []) (handover 1 1) 64 0 ([] ∷ (101 ∷ []) ∷ [])
    -- P: and for each other n the marks of a majority
    ∷ takes 2 2
    ∷ takes 3 2
    ∷ takes 5 3
    ∷ takes 6 4
    ∷ takes 7 4
    -- P: amounts
    ∷ quiet 1 [] (report 1 360) 64 0 1
    ∷ quiet 1 [] (report 1 361) 64 9 0
    ∷ quiet 1 [] (report 1 0) 64 9 0
    ∷ quiet 1 [] (report 1 (minus 360)) 64 0 1
    ∷ quiet 1 [] (report 1 (minus 361)) 64 9 0
    -- P: of version 2, classes 1 to 4; a report of version 1 has none, whatever follows its record: a look shows it in class 0
    ∷ quiet₂ 1 [] (classed 1 360 1) 64 0 1
    ∷ quiet₂ 1 [] (classed 1 360 4) 64 0 1
    ∷ quiet₂ 1 [] (classed 1 360 0) 64 17 0
    ∷ quiet₂ 1 [] (classed 1 360 5) 64 17 0
    ∷ quiet₂ 1 [] (classed 1 360 255) 64 17 0
    ∷ quiet 1 [] (report 1 360 ++ (5 ∷ [])) 64 0 1
    ∷ shows 1 1 ((report 1 360 ++ (4 ∷ [])) ∷ handover 1 1 ∷ []) 1 (each 1 101) (both 360 0) (both 360 0 ∷ no_sums ∷ no_sums ∷ no_sums ∷ no_sums ∷ [])
    -- P: the length of a report goes by the table's version; those of the other kinds do not
    ∷ quiet 1 [] (classed 1 360 1) 64 7 0
    ∷ quiet₂ 1 [] (report 1 360 ++ (1 ∷ [])) 64 7 0
    ∷ quiet₂ 1 [] (sync 1) 64 0 1
    ∷ quiet₂ 1 [] (stop 1 0) 64 0 1
    ∷ quiet₂ 2 (classed 2 1 1 ∷ []) (handover 1 2) 64 0 2
    -- P: a second report while the first is pending, and the 64th; a sync is refused
    ∷ quiet 2 (report 1 1 ∷ []) (report 1 1) 64 0 2
    ∷ quiet 2 (full 63) (report 1 1) 64 0 64
    ∷ quiet 2 (report 1 1 ∷ []) (sync 1) 64 11 1
    ∷ quiet 2 (report 1 1 ∷ report 1 1 ∷ []) (sync 1) 64 11 2
    -- so is a sync after a sync, but not a report
    ∷ quiet 2 (sync 1 ∷ []) (sync 1) 64 11 1
    ∷ quiet 2 (sync 1 ∷ []) (report 1 1) 64 0 2
    -- P: reports of one sender are applied in number order or, here, together; the entries of what was applied are passed over
    ∷ case 1 (report 1 5 ∷ report 1 7 ∷ report 1 (minus 2) ∷ handover 1 1 ∷ handover 1 1 ∷ []) (handover 1 1) 64 0 ([] ∷ [] ∷ [] ∷ (101 ∷ 102 ∷ 103 ∷ []) ∷ [] ∷ [] ∷ [])
    -- a stop can then cut off what was applied
    ∷ case 1 (report 1 5 ∷ report 1 7 ∷ handover 1 1 ∷ []) (stop 1 1) 64 0 ([] ∷ [] ∷ (101 ∷ 102 ∷ []) ∷ [] ∷ [])
    -- P: the run with reports under way: its sets, what a local read gives in it, and a local read that is refused in between
    ∷ case 3 further (handover 3 2) 64 0 (underway_sets ++ ((102 ∷ []) ∷ [] ∷ [] ∷ [] ∷ (101 ∷ []) ∷ (102 ∷ []) ∷ []))
    ∷ sums 1 3 underway (local 2) (underway_sets ++ ([] ∷ [])) false (both 30 0)
    ∷ case 3 underway (local 1) 64 18 underway_sets
    ∷ sums 1 3 further (local 1) (underway_sets ++ ((102 ∷ []) ∷ [] ∷ [] ∷ [] ∷ (101 ∷ []) ∷ [] ∷ [])) false (both 50 0)
    ∷ lists (1 ∷ 3 ∷ flatten further) 64 16384 0
    (52 ∷ 32 ∷ 50 ∷ 32 ∷ 51 ∷ 48 ∷ 32 ∷ 48 ∷ 32 ∷ 49 ∷ 46 ∷ 49 ∷ 10
    ∷ 55 ∷ 32 ∷ 49 ∷ 32 ∷ 51 ∷ 48 ∷ 32 ∷ 48 ∷ 32 ∷ 49 ∷ 46 ∷ 49 ∷ 10
    ∷ 56 ∷ 32 ∷ 49 ∷ 32 ∷ 53 ∷ 48 ∷ 32 ∷ 48 ∷ 32 ∷ 49 ∷ 46 ∷ 50 ∷ 10
    ∷ 49 ∷ 50 ∷ 32 ∷ 51 ∷ 32 ∷ 51 ∷ 48 ∷ 32 ∷ 48 ∷ 32 ∷ 49 ∷ 46 ∷ 49 ∷ 10
    ∷ [])
    -- P: the list with a stale read: a local read lacks a report that is finished elsewhere, and a sync begun then has it; of a finished write
    -- likewise, which a look shows once the sync is finished
    ∷ sums 1 3 finished (local 2) (finished_sets ++ ([] ∷ [])) false no_sums
    ∷ sums 1 3 asked (handover 2 2) (finished_sets ++ ([] ∷ [] ∷ [] ∷ [] ∷ (101 ∷ 202 ∷ []) ∷ [])) true (both 30 0)
    ∷ holds 1 2 wrote 1 wrote_sets no_panel.registers
    ∷ holds 1 2 sought 1 (wrote_sets ++ ([] ∷ [] ∷ [] ∷ (201 ∷ []) ∷ (103 ∷ 202 ∷ []) ∷ []))
    (stamped 1500 1 2 ∷ no_register ∷ no_register ∷ no_register ∷ no_register ∷ no_register ∷ no_register ∷ no_register ∷ [])
    -- a local read: 7 before 8 before 10 before 18 before 15
    ∷ quiet 1 [] (1 ∷ 5 ∷ []) 64 7 0
    ∷ quiet 1 [] (3 ∷ 5 ∷ 9 ∷ 0 ∷ []) 0 7 0
    ∷ quiet 2 [] (local 0) 64 8 0
    ∷ quiet 2 [] (local 3) 64 8 0
    ∷ quiet 2 [] (local 8) 0 8 0
    ∷ quiet 2 (report 1 1 ∷ stop 1 1 ∷ []) (local 1) 0 10 2
    ∷ quiet 2 (report 1 1 ∷ []) (local 1) 0 18 1
    ∷ quiet 2 (sync 1 ∷ []) (local 1) 0 18 1
    -- P: a write follows on an applied sync of its sender's own, and its latest message: not on nothing, on a report, on a sync before a report,
    -- on a write, or on another's sync
    ∷ case 1 (sync 1 ∷ handover 1 1 ∷ []) (write 1 1 5) 64 0 ([] ∷ (101 ∷ []) ∷ [] ∷ [])
    ∷ row (events 2 1 (sync 1 ∷ handover 1 1 ∷ []) (single (write 1 1 5) 64)) 0 ([] ∷ (101 ∷ []) ∷ [] ∷ [])
    ∷ quiet 1 [] (write 1 1 5) 64 20 0
    ∷ case 1 (report 1 5 ∷ handover 1 1 ∷ []) (write 1 1 5) 64 20 (each 1 101)
    ∷ case 1 (sync 1 ∷ handover 1 1 ∷ report 1 5 ∷ handover 1 1 ∷ []) (write 1 1 5) 64 20 (each 2 101)
    ∷ case 1 (set 1 5) (write 1 1 6) 64 20 (each 2 101)
    ∷ case 2 (sync 2 ∷ handover 1 2 ∷ handover 1 1 ∷ []) (write 1 1 5) 64 20 ([] ∷ [] ∷ (201 ∷ []) ∷ [])
    -- a message of another that is pending, or sent later, does not keep it from its sync
    ∷ case 2 (sync 1 ∷ handover 2 1 ∷ handover 1 2 ∷ report 2 5 ∷ handover 1 2 ∷ []) (write 1 1 5) 64 0 ([] ∷ [] ∷ (101 ∷ []) ∷ [] ∷ [] ∷ [] ∷ [])
    -- P: registers 1 to 8
    ∷ case 1 (sync 1 ∷ handover 1 1 ∷ []) (write 1 0 5) 64 19 (each 1 101)
    ∷ case 1 (sync 1 ∷ handover 1 1 ∷ []) (write 1 8 5) 64 0 (each 1 101 ++ ([] ∷ []))
    ∷ case 1 (sync 1 ∷ handover 1 1 ∷ []) (write 1 9 5) 64 19 (each 1 101)
    ∷ case 1 (sync 1 ∷ handover 1 1 ∷ []) (write 1 255 5) 64 19 (each 1 101)
    -- a write: 6, reaching to 6, before 7 before 8 before 19 before 10 before 11 before 12 before 20 before 15
    ∷ quiet 1 [] (2 ∷ 7 ∷ 1 ∷ []) 0 6 0
    ∷ quiet 1 [] (2 ∷ 6 ∷ 9 ∷ []) 0 7 0
    ∷ quiet 1 [] (8 ∷ 6 ∷ 9 ∷ 0 ∷ 0 ∷ 0 ∷ 0 ∷ 0 ∷ 0 ∷ []) 0 7 0
    ∷ quiet 2 [] (write 0 1 5) 64 8 0
    ∷ quiet 2 [] (write 3 0 5) 0 8 0
    ∷ quiet 2 (stop 1 0 ∷ []) (write 1 9 5) 0 19 1
    ∷ quiet 2 (report 1 1 ∷ stop 1 1 ∷ []) (write 1 8 5) 0 10 2
    ∷ quiet 2 (sync 1 ∷ []) (write 1 8 5) 0 11 1
    ∷ quiet 2 (full 64) (write 1 8 5) 0 11 64
    ∷ quiet 2 (full 64) (write 2 8 5) 0 12 64
    ∷ quiet 2 [] (write 2 8 5) 0 20 0
    -- a write that is pending: a report may follow, a sync and another write may not
    ∷ case 1 (sync 1 ∷ handover 1 1 ∷ write 1 1 5 ∷ []) (report 1 5) 64 0 (each 1 101 ++ ([] ∷ [] ∷ []))
    ∷ case 1 (sync 1 ∷ handover 1 1 ∷ write 1 1 5 ∷ []) (sync 1) 64 11 (each 1 101 ++ ([] ∷ []))
    ∷ case 1 (sync 1 ∷ handover 1 1 ∷ write 1 1 5 ∷ []) (write 1 1 5) 64 11 (each 1 101 ++ ([] ∷ []))
    -- P: a stop at log length 3, highest read position 2
    ∷ quiet 4 three (stop 1 1) 64 14 7
    ∷ quiet 4 three (stop 1 2) 64 0 8
    ∷ quiet 4 three (stop 1 3) 64 0 8
    ∷ quiet 4 three (stop 1 4) 64 14 7
    -- an event: 4 before 5 before 6 before 7 before 8
    ∷ quiet 0 [] [] 0 4 0
    ∷ row (events 0 1 [] (single [] 0)) 4 []
    ∷ row (events 3 1 [] (single [] 0)) 4 []
    ∷ quiet 1 [] [] 0 5 0
    ∷ quiet 1 [] (3 ∷ 9 ∷ 1 ∷ []) 0 5 0
    ∷ quiet 1 [] (0 ∷ 1 ∷ []) 0 6 0
    ∷ quiet 1 [] (1 ∷ 9 ∷ []) 0 6 0
    ∷ quiet 1 [] (3 ∷ 1 ∷ 9 ∷ 0 ∷ []) 0 7 0
    -- P: the 64th message is accepted (above), and the 65th gives 12; a report: 10 before 12 before 15
    ∷ quiet 2 (full 64 ++ (stop 1 64 ∷ [])) (report 1 1) 0 10 65
    ∷ quiet 2 (full 64) (report 1 1) 0 12 64
    -- a sync: 7 before 8 before 10 before 11 before 12 before 15; no controller 8 runs
    ∷ quiet 1 [] (3 ∷ 2 ∷ 9 ∷ 0 ∷ []) 0 7 0
    ∷ quiet 2 [] (sync 8) 0 8 0
    ∷ quiet 2 (report 1 1 ∷ stop 1 1 ∷ []) (sync 1) 0 10 2
    ∷ quiet 2 (full 64) (sync 1) 0 11 64
    ∷ quiet 2 (full 64) (sync 2) 0 12 64
    -- a handover: 7 before 8 before 10 before 13 before 15
    ∷ quiet 1 [] (2 ∷ 3 ∷ 9 ∷ []) 0 7 0
    ∷ quiet 2 (stop 1 0 ∷ []) (handover 1 3) 0 8 1
    ∷ quiet 2 (stop 1 0 ∷ []) (handover 1 2) 0 10 1
    ∷ quiet 2 [] (handover 1 2) 0 13 0
    -- a log owner need not run
    ∷ quiet 2 (report 2 1 ∷ stop 2 1 ∷ []) (handover 1 2) 64 0 3
    -- a stop: 7 before 8 before 10 before 14 before 15
    ∷ quiet 1 [] (3 ∷ 4 ∷ 9 ∷ 0 ∷ []) 0 7 0
    ∷ quiet 2 [] (stop 8 1) 0 8 0
    ∷ quiet 2 (stop 1 0 ∷ []) (stop 1 1) 0 10 1
    ∷ quiet 2 [] (stop 1 1) 0 14 0
    -- a file: 1 before 2 before 3 before 5; 16 where a line does not fit, which only an accepted event has
    ∷ row (file (1 ∷ [])) 1 []
    ∷ row (file (3 ∷ [])) 1 []
    ∷ row (file (0 ∷ 8 ∷ [])) 2 []
    ∷ row (file (3 ∷ 8 ∷ [])) 2 []
    ∷ row (file (2 ∷ 8 ∷ [])) 3 []
    ∷ row (file (1 ∷ 8 ∷ [])) 3 []
    ∷ row (file (1 ∷ 8 ∷ 9 ∷ [])) 3 []
    ∷ row (file (1 ∷ 0 ∷ [])) 3 []
    ∷ row (file (1 ∷ 3 ∷ [])) 0 []
    ∷ row (file (2 ∷ 3 ∷ [])) 0 []
    ∷ row (file (1 ∷ 1 ∷ 9 ∷ [])) 5 []
    ∷ row (run (1 ∷ 1 ∷ report 1 5 ++ handover 1 1) 64 11) 16 []
    ∷ lists (1 ∷ 1 ∷ report 1 5 ++ handover 1 1) 64 12 0 (50 ∷ 32 ∷ 49 ∷ 32 ∷ 53 ∷ 32 ∷ 48 ∷ 32 ∷ 49 ∷ 46 ∷ 49 ∷ 10 ∷ [])
    -- a local read counts as an event and has no line
    ∷ lists (1 ∷ 1 ∷ local 1 ++ (report 1 5 ++ (handover 1 1 ++ local 1))) 64 12 0 (51 ∷ 32 ∷ 49 ∷ 32 ∷ 53 ∷ 32 ∷ 48 ∷ 32 ∷ 49 ∷ 46 ∷ 49 ∷ 10 ∷ [])
    -- the length of a record goes by the file's version
    ∷ lists (2 ∷ 1 ∷ classed 1 5 2 ++ handover 1 1) 64 12 0 (50 ∷ 32 ∷ 49 ∷ 32 ∷ 53 ∷ 32 ∷ 48 ∷ 32 ∷ 49 ∷ 46 ∷ 49 ∷ 10 ∷ [])
    ∷ row (run (2 ∷ 1 ∷ report 1 5 ++ handover 1 1) 64 12) 7 []
    ∷ row (run (1 ∷ 1 ∷ classed 1 5 2 ++ handover 1 1) 64 12) 7 []
    -- a fresh table: 2 before 3; versions 1 and 2, 1 to 7 controllers
    ∷ row (request 0 8) 2 []
    ∷ row (request 3 8) 2 []
    ∷ row (request 0 7) 2 []
    ∷ row (request 3 7) 2 []
    ∷ row (request 1 0) 3 []
    ∷ row (request 1 1) 0 []
    ∷ row (request 1 7) 0 []
    ∷ row (request 1 8) 3 []
    ∷ row (request 2 0) 3 []
    ∷ row (request 2 1) 0 []
    ∷ row (request 2 7) 0 []
    ∷ row (request 2 8) 3 []
    -- a look: 4 before 8; the sums of the worked run, and of a withdrawal alone; and each class
    ∷ row (events 1 0 [] (panel 1)) 4 []
    ∷ row (events 1 2 [] (panel 0)) 8 []
    ∷ row (events 1 2 [] (panel 3)) 8 []
    ∷ shows 1 3 worked 2 ([] ∷ [] ∷ [] ∷ (101 ∷ []) ∷ [] ∷ [] ∷ (101 ∷ []) ∷ (301 ∷ []) ∷ [] ∷ [] ∷ []) (both 30 2) (both 30 2 ∷ no_sums ∷ no_sums ∷ no_sums ∷ no_sums ∷ [])
    ∷ shows 1 1 (report 1 (minus 7) ∷ handover 1 1 ∷ stop 1 1 ∷ []) 1 ([] ∷ (101 ∷ []) ∷ [] ∷ []) (both 0 7) (both 0 7 ∷ no_sums ∷ no_sums ∷ no_sums ∷ no_sums ∷ [])
    ∷ shows 2 1 (classed 1 30 2 ∷ handover 1 1 ∷ classed 1 (minus 7) 4 ∷ handover 1 1 ∷ classed 1 (minus 5) 2 ∷ handover 1 1 ∷ []) 1 (each 3 101) (both 30 12)
    (no_sums ∷ no_sums ∷ both 30 5 ∷ no_sums ∷ both 0 7 ∷ [])
    -- P: how many put 1.1 before 3.1, and 3.1 before 1.1, at each of its events
    ∷ row (counts 3 (worked ++ (handover 3 1 ∷ [])) 101 301) 0
    ((0 ∷ 0 ∷ 0 ∷ 0 ∷ 0 ∷ 0 ∷ []) ∷ (1 ∷ 0 ∷ 0 ∷ 0 ∷ 0 ∷ 0 ∷ []) ∷ (1 ∷ 0 ∷ 0 ∷ 0 ∷ 0 ∷ 0 ∷ []) ∷ (1 ∷ 0 ∷ 1 ∷ 0 ∷ 0 ∷ 0 ∷ [])
    ∷ (0 ∷ 0 ∷ 1 ∷ 0 ∷ 0 ∷ 0 ∷ []) ∷ (0 ∷ 0 ∷ 1 ∷ 0 ∷ 0 ∷ 1 ∷ []) ∷ (0 ∷ 0 ∷ 1 ∷ 1 ∷ 0 ∷ 1 ∷ []) ∷ (0 ∷ 0 ∷ 0 ∷ 1 ∷ 0 ∷ 1 ∷ [])
    ∷ (0 ∷ 0 ∷ 0 ∷ 0 ∷ 0 ∷ 1 ∷ []) ∷ (0 ∷ 0 ∷ 0 ∷ 0 ∷ 1 ∷ 1 ∷ []) ∷ (0 ∷ 0 ∷ 0 ∷ 0 ∷ 1 ∷ 1 ∷ []) ∷ (0 ∷ 0 ∷ 0 ∷ 0 ∷ 0 ∷ 0 ∷ []) ∷ [])
    -- a count: 4 before 8
    ∷ row (events 1 0 [] (before 1 101 102)) 4 ((0 ∷ []) ∷ [])
    ∷ row (events 1 2 (report 1 5 ∷ []) (before 0 101 102)) 8 ([] ∷ (0 ∷ []) ∷ [])
    ∷ row (events 1 2 [] (before 3 101 102)) 8 ((0 ∷ []) ∷ [])
    -- P: a pending message before itself: none; before one that is cut off, that was never sent, or that no controller can have sent: each
    -- of its marks; each of these before it: none
    ∷ counted 2 101 101 0
    ∷ counted 2 101 102 2
    ∷ counted 2 102 101 0
    ∷ counted 2 101 301 2
    ∷ counted 2 301 101 0
    ∷ counted 2 101 1 2
    ∷ counted 2 1 101 0
    ∷ counted 2 101 25501 2
    ∷ counted 2 25501 101 0
    ∷ counted 2 100 25501 0
    -- P: a pending message before one that was applied
    ∷ row (events 1 1 (report 1 5 ∷ handover 1 1 ∷ report 1 6 ∷ []) (before 1 102 101)) 0 (each 1 101 ++ ([] ∷ (1 ∷ []) ∷ []))
    ∷ row (events 1 1 (report 1 5 ∷ handover 1 1 ∷ report 1 6 ∷ []) (before 1 101 102)) 0 (each 1 101 ++ ([] ∷ (0 ∷ []) ∷ []))
    -- P: the greatest sum: 64 reports, all taken back and applied at once
    ∷ shows 1 1 (times 64 (report 1 (minus 360) ∷ []) ++ (handover 1 1 ∷ [])) 1 (times 64 ([] ∷ []) ++ (numbered 64 101 ∷ [])) (both 0 23040)
    (both 0 23040 ∷ no_sums ∷ no_sums ∷ no_sums ∷ no_sums ∷ [])
    -- P: two writers with one date: the greater writer's value, on both panels
    ∷ holds 1 2 rivals 1 rival_sets (no_register ∷ no_register ∷ stamped 500 1 2 ∷ no_register ∷ no_register ∷ no_register ∷ no_register ∷ no_register ∷ [])
    ∷ holds 1 2 rivals 2 rival_sets (no_register ∷ no_register ∷ stamped 500 1 2 ∷ no_register ∷ no_register ∷ no_register ∷ no_register ∷ no_register ∷ [])
    -- P: the run with classes, its sets and what both panels show of each class
    ∷ shows 2 2 graded 1 graded_sets (both 42 2) (no_sums ∷ both 30 0 ∷ no_sums ∷ both 12 0 ∷ both 0 2 ∷ [])
    ∷ shows 2 2 graded 2 graded_sets (both 42 2) (no_sums ∷ both 30 0 ∷ no_sums ∷ both 12 0 ∷ both 0 2 ∷ [])
    -- P: 1.2 is taken out and forces 2.1 out: 1.2 stands in a later slot than 2.1, and in an earlier one; 1.1 is applied
    ∷ case 3 (report 2 4 ∷ report 2 8 ∷ report 1 1 ∷ report 1 2 ∷ overtaken) (handover 2 3) 64 0 (times 13 ([] ∷ []) ++ ((101 ∷ []) ∷ []))
    ∷ case 3 (report 1 1 ∷ report 1 2 ∷ report 2 4 ∷ report 2 8 ∷ overtaken) (handover 2 3) 64 0 (times 13 ([] ∷ []) ++ ((101 ∷ []) ∷ []))
    -- P: a chain of three: 1.3 is taken out and forces 2.1 out, in a later slot, which forces 1.2 out, in an earlier one; 1.1 is applied
    ∷ case 3 chained (handover 2 3) 64 0 (times 16 ([] ∷ []) ++ ((101 ∷ []) ∷ []))
    -- P: 63, 64 and 65 bytes of scratch: of each kind of record, and of a file
    ∷ enough (edge 1 1 [] (report 1 1))
    ∷ enough (edge 2 1 [] (classed 1 1 1))
    ∷ enough (edge 1 1 [] (sync 1))
    ∷ enough (edge 1 1 (report 1 1 ∷ []) (handover 1 1))
    ∷ enough (edge 1 1 [] (stop 1 0))
    ∷ enough (edge 1 1 [] (local 1))
    ∷ enough (edge 1 1 (sync 1 ∷ handover 1 1 ∷ []) (write 1 1 5))
    ∷ enough (file_edge (1 ∷ 1 ∷ report 1 1))
    ∷ []

results : List Row → List Given
results [] = []
results (r ∷ rs) = given r.of ∷ results rs

expected : List Row → List Given
expected [] = []
expected (r ∷ rs) = r.gives ∷ expected rs

pub record AllCases : Type 0 where
  hold : results table ≡ expected table

pub all_cases : AllCases
unfolding computed flatten results expected table called both_ways tracked played left lent lent_file around given report classed sync handover stop local write minus times worked forced overtaken chained graded graded_sets underway further underway_sets three backed set settled rivals rival_sets finished asked finished_sets wrote wrote_sets sought heard counted full each numbered
all_cases = record { hold = refl }

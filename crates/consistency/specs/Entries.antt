-- What a list of calls is read from: the calls, what each of them answers and leaves, and the steps that this stands for (RULES.md, section
-- 21). Every word is read from arguments and answers.
use Rattle.std.specs.Prelude.{ℕ, ◌≡◌, Bool, false, ◌&&◌, ◌||◌, cond, length, ℤ, pos, ◌-ℤ◌, eqb, ltb}
use mathlib.Core.List.{List, [], ◌∷◌, ◌++◌, map, flat_map}
use Rattle.model.specs.Tables.{report_kind, write_kind, message_number}
use Rattle.model.specs.Records.{byte, kind, word, long, decode}
use Rattle.model.specs.Calls.{EventAnswer, event, look, count_before}
use Rattle.turns.specs.Dispatcher.{some?, handover, Dispatched, dispatch}
use Rattle.previews.specs.Previews.{Preview, preview, commit}
use Rattle.model.specs.declared.Name.{Name}
use Rattle.model.specs.declared.Sums.{Sums}
use Rattle.model.specs.declared.Table.{Table}
use Rattle.model.specs.declared.Event.{Event}
use Rattle.model.specs.declared.Command.{Command}
use Rattle.model.specs.declared.Command.TheVariants.{Act, Read}
use Rattle.model.specs.declared.LookAnswer.{LookAnswer}
use Rattle.model.specs.declared.CountAnswer.{CountAnswer}
use Rattle.model.specs.declared.Pair.{Pair}

-- NAMES

abbrev pub name : ℕ → ℕ → Name
name c k = record { sender = c; number = message_number k }

unfoldable pub same : Name → Name → Bool
same a b = eqb a.sender b.sender && eqb a.number.0 b.number.0

unfoldable pub has : Name → List Name → Bool
has m [] = false
has m (x ∷ xs) = same m x || has m xs

-- no message comes twice
unfoldable pub Distinct : List Name → Type 0
Distinct [] = Unit {0}
Distinct (x ∷ xs) = (has x xs ≡ false) × Distinct xs

-- the messages of sender c
unfoldable pub own_of : ℕ → List Name → List Name
own_of c [] = []
own_of c (m ∷ ms) = cond (eqb m.sender c) (m ∷ own_of c ms) (own_of c ms)

-- those of the first that are not in the second
unfoldable pub less : List Name → List Name → List Name
less [] ys = []
less (x ∷ xs) ys = cond (has x ys) (less xs ys) (x ∷ less xs ys)

-- THE CALLS are of three kinds: a single event, a call that observes, and a call that is served

-- A call that observes changes no table, whatever it answers: the panel look, the count of "goes before", and ask. What it is asked, and
-- the scratch area that it is lent:
pub data Observation : Type 0 where
  panel_look : (controller : ℕ) → Observation
  goes_before_count : (controller : ℕ) (first second : Name) → Observation
  asking : (pair : Pair) (scratch : List ℕ) → Observation

-- the form of its answer, and what it answers
abbrev pub Observed : Observation → Type 0
Observed (panel_look c) = LookAnswer
Observed (goes_before_count c a b) = CountAnswer
Observed (asking p w) = Preview

unfoldable pub observe : Table → (o : Observation) → Observed o
observe t (panel_look c) = look t c
observe t (goes_before_count c a b) = count_before t c a b
observe t (asking p w) = preview t p (length w)

-- A call that is served makes handovers, none, one or several: the dispatcher, and commit. What it is asked: the pair that it served last,
-- or the pair whose handover it makes and the act count given back; and the scratch area that it is lent
pub data Service : Type 0 where
  dispatching : (named : Pair) (scratch : List ℕ) → Service
  committing : (pair : Pair) (acts : ℕ) (scratch : List ℕ) → Service

-- the form of its answer
abbrev pub Served : Service → Type 0
Served (dispatching p w) = Dispatched
Served (committing p k w) = EventAnswer

-- what it answers, and the table that it leaves
pub record ServiceOutcome (s : Service) : Type 0 where
  pub answer : Served s
  pub table : Table

unfoldable pub serve : Table → (s : Service) → ServiceOutcome s
serve t (dispatching p w) = let o = dispatch t p (length w) in record { answer = o.answer; table = o.table }
serve t (committing p k w) = let o = commit t p k (length w) in record { answer = o.answer; table = o.table }

-- The handovers that an answer says were made, in order, each with its pair and with what it answered. That they lead to the table that
-- the call leaves, each allowed where it is made, is a law for each case (proofs/CallCourses.antt).
unfoldable pub made_by : (s : Service) → Served s → List Dispatched
made_by (dispatching p w) a = cond (some? a.pair && eqb a.answer.refusal 0) (a ∷ []) []
made_by (committing p k w) a = cond (eqb a.refusal 0) (record { pair = p; answer = a } ∷ []) []

-- "In the list stand the single-event call, with any bytes and any scratch, and the panel look at any number"; the count of "goes
-- before", at any number and of any two names; and the dispatcher, ask and commit, with any pair, any count and any scratch
pub data Call : Type 0 where
  single_event : (bytes scratch : List ℕ) → Call
  observing : Observation → Call
  serving : Service → Call

-- WHAT STANDS IN THE LIST

-- what a listing line says: the set applied, and the two sums
pub record Line : Type 0 where
  pub set : List Name
  pub sums : Sums

-- "Its words are read from the calls' arguments and answers, never from the stored table." A call's arguments with its answer; a handover
-- that a served call made, with the call and with what it answered; or a record that a file run accepted, with its listing line.
pub data Entry : Type 0 where
  answered : (bytes scratch : List ℕ) → EventAnswer → Entry
  observed : (o : Observation) → Observed o → Entry
  served : (s : Service) → Served s → Entry
  handed : Service → Pair → EventAnswer → Entry
  listed : (bytes : List ℕ) → Line → Entry

abbrev pub handed_over : Service → List Dispatched → List Entry
handed_over s xs = map (λ x. handed s x.pair x.answer) xs

-- what a call puts in the list: its own entry, and after that of a served call one for each handover that its answer says was made
unfoldable pub entries_of : Table → Call → List Entry
entries_of t (single_event s w) = answered s w (event t s (length w)).answer ∷ []
entries_of t (observing o) = observed o (observe t o) ∷ []
entries_of t (serving s) = let a = (serve t s).answer in served s a ∷ handed_over s (made_by s a)

-- the table that a call leaves
unfoldable pub left : Table → Call → Table
left t (single_event s w) = (event t s (length w)).table
left t (observing o) = t
left t (serving s) = (serve t s).table

-- Each call gets the table that the last one left.
unfoldable pub transcript : Table → List Call → List Entry
transcript t [] = []
transcript t (c ∷ cs) = entries_of t c ++ transcript (left t c) cs

-- WHAT IT STANDS FOR

-- what a record says of a message: its kind, 1 for a report, 2 for a sync and 6 for a write; its amount; its class; its register and value
pub record Said : Type 0 where
  pub kind : ℕ
  pub amount : ℤ
  pub class : ℕ
  pub reg : ℕ
  pub value : ℕ

-- "its amount is the one in the record of a report, and 0 for every message that is no report": two's complement
unfoldable pub twos : ℕ → ℤ
twos x = cond (ltb x 32768) (pos x) (pos x -ℤ pos 65536)

unfoldable pub amount_in : List ℕ → ℤ
amount_in s = cond (eqb (kind s) report_kind) (twos (word s 3)) (pos 0)

-- its class is the byte after the amount in the record of a report if the head's version v is 2, and 0 otherwise
unfoldable pub class_in : ℕ → List ℕ → ℕ
class_in v s = cond (eqb (kind s) report_kind && eqb v 2) (byte s 5) 0

-- "write (controller, register, value of 4 bytes unsigned)"; a message that is no write has neither
unfoldable pub register_in : List ℕ → ℕ
register_in s = cond (eqb (kind s) write_kind) (byte s 3) 0

unfoldable pub value_in : List ℕ → ℕ
value_in s = cond (eqb (kind s) write_kind) (long s 4) 0

unfoldable pub said : ℕ → List ℕ → Said
said v s = record { kind = kind s; amount = amount_in s; class = class_in v s; reg = register_in s; value = value_in s }

-- a handover that a served call makes has no record, and says nothing of a message
abbrev pub nothing_said : Said
nothing_said = record { kind = 0; amount = pos 0; class = 0; reg = 0; value = 0 }

-- a step of Algorithm 1: an event carried out, with what its record says and the set that was answered
pub data Step : Type 0 where
  carried : Said → Event → (set : List Name) → Step

-- "An event or call that a request adds stands in a list for what it does": a local read moves nothing, nor does a call that observes
unfoldable pub steps_of : Said → Command → List Name → List Step
steps_of r (Act e) ms = carried r e ms ∷ []
steps_of r (Read c) ms = []

-- "A call is accepted when its number is 0; a refused one moves nothing here." A served call's own entry moves nothing: its handovers do. The
-- head's version is v.
unfoldable pub steps : ℕ → Entry → List Step
steps v (answered s w a) = cond (eqb a.refusal 0) (steps_of (said v s) (decode v s) a.names) []
steps v (observed o a) = []
steps v (served s a) = []
steps v (handed s p a) = carried nothing_said (handover p) a.names ∷ []
steps v (listed s x) = steps_of (said v s) (decode v s) x.set

-- what entries did
abbrev pub did : ℕ → List Entry → List Step
did v es = flat_map (steps v) es

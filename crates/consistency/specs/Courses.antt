-- The table along a list: the one that an entry leaves, the one at a moment, and courses, in which each entry is what the definitions of the
-- calls give at its table. The claim of demand 3 names none of these; they are for the laws that speak of tables.
use Rattle.std.specs.Prelude.{ℕ, ◌≡◌, length, take}
use mathlib.Core.List.{List, [], ◌∷◌, foldl}
use Rattle.model.specs.Tables.{fresh}
use Rattle.model.specs.Events.{next, controller_of, panel_of}
use Rattle.model.specs.Records.{decode}
use Rattle.model.specs.Questions.{first_no, event_questions, command_questions}
use Rattle.model.specs.Calls.{Outcome, answering, accepted, event}
use Rattle.turns.specs.Dispatcher.{handover, Dispatched, dispatch}
use Rattle.model.specs.declared.Name.{Name}
use Rattle.model.specs.declared.Sums.{Sums}
use Rattle.model.specs.declared.Pair.{Pair}
use Rattle.model.specs.declared.Table.{Table}
use Rattle.model.specs.declared.Command.TheVariants.{Act}
use Rattle.consistency.specs.Entries.{observe, Service, dispatching, committing, serve, Call, Line, Entry, answered, observed, served, handed, listed}
use Rattle.consistency.specs.Lines.{no_line}
use Rattle.consistency.specs.Demand3.{Head, version, controllers, entries}

-- P holds at each element of a list, with the state that those before it leave, and the last leaves u
module _ {S A : Type 0} (on : S → A → S) (P : S → A → Type 0) where
  unfoldable pub Course : S → List A → S → Type 0
  Course s [] u = s ≡ u
  Course s (x ∷ xs) u = P s x × Course (on s x) xs u

-- the table that an entry leaves
unfoldable pub told : Table → Entry → Table
told t (answered s w a) = (event t s (length w)).table
told t (observed o a) = t
told t (served s a) = t
told t (handed s p a) = next t (handover p)
told t (listed s x) = (accepted t s).table

-- what the line of a set and of the sums after it says; a set without messages has none
unfoldable pub line_saying : Sums → List Name → Line
line_saying z [] = no_line
line_saying z (m ∷ ms) = record { set = m ∷ ms; sums = z }

-- what the line of an event of controller c says, from what the event answers and leaves
abbrev pub line_after : ℕ → Outcome → Line
line_after c o = line_saying (panel_of o.table c).sums o.answer.names

-- a call makes this handover at t: the dispatcher that of the pair that it answers there, commit that of the pair that it is asked
unfoldable pub Chooses : Table → Service → Pair → Type 0
Chooses t (dispatching p w) q = q ≡ (dispatch t p (length w)).answer.pair
Chooses t (committing p k w) q = q ≡ p

-- what the definitions of the calls answer; of a handover that a served call made, that no question refuses it and that the call makes
-- it there; of a file, a record that no question refuses, and what its line says
unfoldable pub Gives : Table → Entry → Type 0
Gives t (answered s w a) = a ≡ (event t s (length w)).answer
Gives t (observed o a) = a ≡ observe t o
Gives t (served s a) = a ≡ (serve t s).answer
Gives t (handed s p a) = (first_no (event_questions t (handover p)) ≡ 0) × (a ≡ answering t (Act (handover p)) []) × Chooses t s p
Gives t (listed s x) = (first_no (command_questions t (decode t.version s)) ≡ 0) × (x ≡ line_after (controller_of (decode t.version s)) (accepted t s))

-- each of these handovers is allowed at the table where the call makes it, and answers what the definitions give; the last leaves u
unfoldable pub Allowed : Service → Table → List Dispatched → Table → Type 0
Allowed s t [] u = t ≡ u
Allowed s t (x ∷ xs) u = Gives t (handed s x.pair x.answer) × Allowed s (next t (handover x.pair)) xs u

-- the fresh table that a list starts from, and the table at a moment of it
abbrev pub fresh_of : Head → Table
fresh_of h = fresh (version h) (controllers h)

abbrev pub table_at : Head → List Call → ℕ → Table
table_at h calls i = foldl told (fresh_of h) (take i (entries h calls))

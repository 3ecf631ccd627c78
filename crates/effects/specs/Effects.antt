-- What an event does, as the functions of the effects hand it on: its answer, and the one controller that it changes.
use Rattle.std.specs.Prelude.{ℕ, ◌+◌, ◌-◌, ◌≤◌, max, ◌≡◌, false, cond, List, [], length, set}
use Rattle.model.specs.Tables.{Messages, scratch_size, no_sums, unheld, message_number, at, messages_of, highest, with_delivered}
use Rattle.model.specs.Events.{sent_message, subject, after, next, applied_by, sums, panel_of, names_of, finishes}
use Rattle.model.specs.Calls.{cleared, answer_of}
use Rattle.model.specs.declared.Message.{Message}
use Rattle.model.specs.declared.Payload.{Payload}
use Rattle.model.specs.declared.Controller.{Controller}
use Rattle.model.specs.declared.Sums.{Sums}
use Rattle.model.specs.declared.Table.{Table}
use Rattle.model.specs.declared.Event.{Event}
use Rattle.model.specs.declared.Event.TheVariants.{Send, Handover}
use Rattle.model.specs.declared.Answer.{Answer}
use Rattle.effects.specs.declared.Effect.{Effect}
use Rattle.effects.specs.declared.Sent.{Sent}
use Rattle.effects.specs.Conditions.{Accepted}
use Rattle.effects.specs.Parties.{Allowed}

-- ONE MESSAGE OF A SET: message m of slot s leaves the buffer and is applied

unfoldable pub with_applied : Controller → Message → ℕ → Controller
with_applied c m s =
    with_delivered c
    (set c.pending s unheld)
    (set c.applied s 1)
    (set c.highest (m.sender - 1) (message_number (max (highest c m.sender) m.number.0)))

-- ANSWERS

-- of a refusal, or of what applies nothing
unfoldable pub no_set : ℕ → Answer
no_set k = answer_of (record { refusal = k; names = []; finished = false; sums = no_sums; rest = [] })

-- of a local read, where the panel of its controller shows these sums
unfoldable pub read_answer : Sums → Answer
read_answer z = answer_of (record { refusal = 0; names = []; finished = false; sums = z; rest = [] })

-- THE EFFECT of an event

unfoldable pub effect_of : Table → Event → Effect
effect_of t e =
    let S = applied_by t e in
    let f = finishes (messages_of t) S (subject e) in
    let z = (panel_of (next t e) (subject e)).sums in
    record {
      answer = answer_of (record { refusal = 0; names = names_of (messages_of t) S; finished = f; sums = cond f z no_sums; rest = [] });
      controller = after t e;
    }

-- what is answered, and left of the scratch area w
pub record Effected (t : Table) (e : Event) (w : List ℕ) (answer : Effect) (scratch : List ℕ) : Type 0 where
  pub effect : answer ≡ effect_of t e
  pub clear : scratch ≡ cleared w

-- where nothing is applied and the subject is then c
pub record Quiet (c : Controller) (w : List ℕ) (answer : Effect) (scratch : List ℕ) : Type 0 where
  pub effect : answer ≡ record { answer = no_set 0; controller = c }
  pub clear : scratch ≡ cleared w

-- a local read of a controller that is x
pub record Reads (t : Table) (x : Controller) (w : List ℕ) (answer : Answer) (scratch : List ℕ) : Type 0 where
  pub sums_are : answer ≡ read_answer (sums (messages_of t) x.applied)
  pub clear : scratch ≡ cleared w

-- CONTRACTS, of every well-formed table on which no question refuses the event

-- an event whose subject is x, and which reads the log of y
pub record CarriesOut (t : Table) (e : Event) (x y : Controller) (w : List ℕ) (answer : Effect) (scratch : List ℕ) : Type 0 where
  pub effected : Allowed t e x y → scratch_size ≤ length w → Effected t e w answer scratch

-- an event whose controllers are those of the table
pub record Acts (t : Table) (e : Event) (w : List ℕ) (answer : Effect) (scratch : List ℕ) : Type 0 where
  pub effected : Accepted t e → scratch_size ≤ length w → Effected t e w answer scratch

-- one handover to r, which is x, from the log of o, which is y: of every table of n controllers with the messages M
pub record HandsOver (n : ℕ) (M : Messages) (x y : Controller) (r o : ℕ) (w : List ℕ) (answer : Effect) (scratch : List ℕ) : Type 0 where
  pub effected : (t : Table) → t.n ≡ n → messages_of t ≡ M → Allowed t (Handover r o) x y → scratch_size ≤ length w
      → Effected t (Handover r o) w answer scratch

-- the message m that c sends after those of M; its sender is then x
pub record Sends (M : Messages) (x : Controller) (c : ℕ) (p : Payload) (m : Message) : Type 0 where
  pub sent : (t : Table) → messages_of t ≡ M → Accepted t (Send c p) → x ≡ after t (Send c p) → m ≡ sent_message M (at t c) c p

-- the messages M with m after them
unfoldable pub sent_of : Messages → Message → Sent
sent_of M m = record { count = M.count + 1; messages = set M.slots M.count m }

-- the messages M with the one that c sends; its sender is then x
pub record Adds (M : Messages) (x : Controller) (c : ℕ) (p : Payload) (r : Sent) : Type 0 where
  pub added : (t : Table) → messages_of t ≡ M → Accepted t (Send c p) → x ≡ after t (Send c p) → r ≡ sent_of M (sent_message M (at t c) c p)

-- an accepted event leaves its subject as x
abbrev pub Leaves : Table → Event → Controller → Type 0
Leaves t e x = Accepted t e × (x ≡ after t e)

pub record Stores (t : Table) (e : Event) (x : Controller) (table : Table) : Type 0 where
  pub stored : Leaves t e x → table ≡ next t e

-- The ledger (RULES.md, section 21): what is known of the messages and the controllers from the steps so far, and what a panel shows by it.
use Rattle.std.specs.Prelude.{ℕ, suc, ◌+◌, Bool, true, false, ◌&&◌, ◌||◌, cond, length, get_or, take, drop, ℤ, pos, negsuc, eqb}
use mathlib.Core.List.{List, [], ◌∷◌, ◌++◌, map, flatten, foldl}
use Rattle.lists.specs.Build.{tabulate}
use Rattle.model.specs.Tables.{class_count, register_count, sync_kind, write_kind, no_name, no_register}
use Rattle.model.specs.Registers.{wins}
use Rattle.model.specs.declared.Name.{Name}
use Rattle.model.specs.declared.Payload.{Payload}
use Rattle.model.specs.declared.Sums.{Sums}
use Rattle.model.specs.declared.Register.{Register}
use Rattle.model.specs.declared.Panel.{Panel}
use Rattle.model.specs.declared.Event.TheVariants.{Send, Handover, Stop}
use Rattle.consistency.specs.Entries.{name, same, has, own_of, less, Said, Step, carried}

-- THE LEDGER

-- a message sent: its name; the date of a write, and 0 for any other; its payload, and what its record says of it
pub record Sent : Type 0 where
  pub name : Name
  pub date : ℕ
  pub payload : Payload
  pub said : Said

-- Logs; the place of each receiver in each log; who runs; what was sent and what was cut off; and for each controller the
-- sets that the accepted handovers to it answered.
pub record Ledger : Type 0 where
  pub log : ℕ → List Name
  pub place : ℕ → ℕ → ℕ
  pub runs : ℕ → Bool
  pub sent : List Sent
  pub cut : List Name
  pub sets : ℕ → List (List Name)

-- "A controller has applied the messages in the sets that accepted handovers to it answered."
abbrev pub applied : Ledger → ℕ → List Name
applied l c = flatten (l.sets c)

-- a write of register r, and what it gives that register: its value, and its stamp, a date and the writer
unfoldable pub writes : ℕ → Sent → Bool
writes r x = eqb x.said.kind write_kind && eqb x.said.reg r

abbrev pub written : Sent → Register
written x = record { value = x.said.value; stamp = record { date = x.date; writer = x.name.sender } }

-- register r by those messages sent that are in ms: the write with the greatest stamp, dates before writers; if none, 0 with stamp 0, 0
unfoldable pub newest : ℕ → List Sent → List Name → Register
newest r xs ms = foldl (λ y x. cond (has x.name ms && writes r x) (wins (written x) y) y) no_register xs

-- register r as controller c holds it
abbrev pub register_at : Ledger → ℕ → ℕ → Register
register_at l c r = newest r l.sent (applied l c)

-- "the date known to the writer plus one": one more than the greatest date of its register among the writes that c has applied
unfoldable pub date_for : Ledger → ℕ → Said → ℕ
date_for l c r = cond (eqb r.kind write_kind) ((register_at l c r.reg).stamp.date + 1) 0

-- "Logs are empty at first."
unfoldable pub start : Ledger
start = record { log = λ c. []; place = λ r o. 0; runs = λ c. true; sent = []; cut = []; sets = λ c. [] }

-- another value at x
unfoldable pub put : {A : Type 0} → (ℕ → A) → ℕ → A → ℕ → A
put f x v y = cond (eqb y x) v (f y)

unfoldable pub moved : Ledger → Step → Ledger
-- "An accepted report or sync of c", or write, "puts c.k at the end of c's log, k being the length before plus one. That message is then
-- sent"
moved l (carried r (Send c p) ms) =
    let m = name c (length (l.log c) + 1) in
    record {
      log = put l.log c (l.log c ++ (m ∷ []));
      place = l.place;
      runs = l.runs;
      sent = l.sent ++ (record { name = m; date = date_for l c r; payload = p; said = r } ∷ []);
      cut = l.cut;
      sets = l.sets;
    }
-- "An accepted handover to r from o moves r's place in o's log, 0 at first, on by one. If r's log lacks the message there, it goes
-- to the end of r's log."
moved l (carried _ (Handover r o) ms) =
    let m = get_or (l.log o) (l.place r o) no_name in
    record {
      log = put l.log r (cond (has m (l.log r)) (l.log r) (l.log r ++ (m ∷ [])));
      place = put l.place r (put (l.place r) o (l.place r o + 1));
      runs = l.runs;
      sent = l.sent;
      cut = l.cut;
      sets = put l.sets r (l.sets r ++ (ms ∷ []));
    }
-- "An accepted stop of c cuts c's log to the length kept that its record names. Until then c runs. A message is cut off when its
-- entry in its sender's log went with that cut."
moved l (carried _ (Stop c k) ms) = record {
  log = put l.log c (take k (l.log c));
  place = l.place;
  runs = put l.runs c false;
  sent = l.sent;
  cut = l.cut ++ own_of c (drop k (l.log c));
  sets = l.sets;
}

abbrev pub ledger : List Step → Ledger
ledger xs = foldl moved start xs

abbrev pub sent_names : Ledger → List Name
sent_names l = map (λ m. m.name) l.sent

-- the messages sent, less those cut off with a stopped sender's log
abbrev pub remaining : Ledger → List Name
remaining l = less (sent_names l) l.cut

-- WHAT A PANEL SHOWS BY IT

-- the sum of a weight of messages
unfoldable pub weight_of : (Sent → ℕ) → List Sent → Name → ℕ
weight_of w [] m = 0
weight_of w (x ∷ xs) m = cond (same m x.name) (w x) (weight_of w xs m)

unfoldable pub weights : (Sent → ℕ) → List Sent → List Name → ℕ
weights w xs [] = 0
weights w xs (m ∷ ms) = weight_of w xs m + weights w xs ms

-- the parts of an amount: above 0, and below 0 with the sign dropped
unfoldable pub above : ℤ → ℕ
above (pos x) = x
above (negsuc x) = 0

unfoldable pub below : ℤ → ℕ
below (pos x) = 0
below (negsuc x) = suc x

-- "demand 3 is read for each, over its own part of the amounts"
abbrev pub both_of : ((Sent → ℕ) → ℕ) → Sums
both_of f = record { added = f (λ x. above x.said.amount); withdrawn = f (λ x. below x.said.amount) }

-- a weight of the messages of class k alone
abbrev pub of_class : ℕ → (Sent → ℕ) → Sent → ℕ
of_class k w x = cond (eqb x.said.class k) (w x) 0

-- the panel of messages: the sums over them, for each class over those of that class, and the registers
unfoldable pub showing : List Sent → List Name → Panel
showing xs ms = record {
  sums = both_of (λ w. weights w xs ms);
  classes = tabulate class_count (λ k. both_of (λ w. weights (of_class k w) xs ms));
  registers = tabulate register_count (λ i. newest (suc i) xs ms);
}

-- whether a set holds a sync that c sent
unfoldable pub finishing : List Sent → List Name → ℕ → Bool
finishing [] ms c = false
finishing (x ∷ xs) ms c = (eqb x.said.kind sync_kind && (eqb x.name.sender c && has x.name ms)) || finishing xs ms c

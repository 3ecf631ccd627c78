-- The cases of RULES.md, section 23 (Edges), that are marked P and are the dispatcher's; and for each two of its questions that can both be
-- no at once, a row in which both are and the first gives the number. One table; and one theorem of this table and that of `model`.
-- Assumes nothing.
use mathlib.Core.Path.{◌≡◌, refl}
use Prim.Native.Nat.{ℕ, ◌+◌, ◌*◌, ◌/◌, ◌%◌}
use mathlib.Core.Bool.{Bool, true, false}
use mathlib.Core.List.{List, [], ◌∷◌, ◌++◌, map}
use lib.ListN.{replicate}
use Rattle.model.specs.Tables.{no_sums, fresh, at, with_controller, with_read}
use Rattle.model.specs.Calls.{step}
use Rattle.model.specs.declared.Name.{Name}
use Rattle.model.specs.declared.Sums.{Sums}
use Rattle.model.specs.declared.Table.{Table}
use Rattle.model.proofs.Computed.{computed}
use Rattle.model.proofs.Cases.{AllCases, all_cases}
use Rattle.turns.specs.Dispatcher.{pair, following, waits, first_waiting, next_pair, pair_questions, dispatch_questions, Dispatched, says_none, with_handover, with_none, dispatch, scratch_served}

-- RECORDS

unfoldable pub report : ℕ → ℕ → List ℕ
report c x = 4 ∷ 1 ∷ c ∷ x / 256 ∷ x % 256 ∷ []

unfoldable pub sync : ℕ → List ℕ
sync c = 2 ∷ 2 ∷ c ∷ []

unfoldable pub handover : ℕ → ℕ → List ℕ
handover r o = 3 ∷ 3 ∷ r ∷ o ∷ []

unfoldable pub stop : ℕ → ℕ → List ℕ
stop c k = 4 ∷ 4 ∷ c ∷ 0 ∷ k ∷ []

-- CASES: n controllers, the records of accepted events, and calls of the dispatcher, each on the table that the last one left

-- a call: the pair named, as 100 times its receiver plus its owner, and how many bytes of scratch
record Asked : Type 0 where
  named : ℕ
  room : ℕ

-- what it gives: the number; the pair, and the set, each message as 100 times its sender plus its number; whether an own sync is finished,
-- and the answer's sums; whether it says "none"; and what is left of 65 bytes of scratch, each 7
record Given : Type 0 where
  refusal : ℕ
  pair : ℕ
  set : List ℕ
  finished : Bool
  sums : Sums
  none : Bool
  scratch : List ℕ

-- these bytes, and what a handover leaves of them
abbrev pub dirty : List ℕ
dirty = replicate 65 7

abbrev pub clear : List ℕ
clear = replicate 64 0 ++ (7 ∷ [])

abbrev pub coded : Name → ℕ
coded m = m.sender * 100 + m.number.0

given_by : Dispatched → Given
given_by d =
    let p = d.pair in
    let a = d.answer in
    record {
      refusal = a.refusal;
      pair = p.receiver * 100 + p.owner;
      set = map coded a.names;
      finished = a.finished;
      sums = a.sums;
      none = says_none d;
      scratch = scratch_served p dirty;
    }

called : Table → List Asked → List Given
called t [] = []
called t (a ∷ more) =
    let o = dispatch t (pair (a.named / 100) (a.named % 100)) a.room in
    given_by o.answer ∷ called o.table more

unfoldable pub played : Table → List (List ℕ) → Table
played t [] = t
played t (r ∷ rs) = played (step t r 64).table rs

record Row : Type 0 where
  table : Table
  asks : List Asked
  gives : List Given

-- events of a machine of n controllers, and calls
abbrev row : ℕ → List (List ℕ) → List Asked → List Given → Row
row n rs cs gs = record { table = played (fresh 1 n) rs; asks = cs; gives = gs }

abbrev ask : ℕ → Asked
ask p = record { named = p; room = 64 }

-- with this many bytes of scratch
abbrev lent : ℕ → ℕ → Asked
lent p room = record { named = p; room = room }

-- a handover of this pair, which applies this set and finishes no sync
abbrev serves : ℕ → List ℕ → Given
serves p ms = record { refusal = 0; pair = p; set = ms; finished = false; sums = no_sums; none = false; scratch = clear }

-- one that finishes a sync: both sums
abbrev finishes : ℕ → List ℕ → ℕ → ℕ → Given
finishes p ms a w = record { refusal = 0; pair = p; set = ms; finished = true; sums = record { added = a; withdrawn = w }; none = false; scratch = clear }

abbrev none : Given
none = record { refusal = 0; pair = 0; set = []; finished = false; sums = no_sums; none = true; scratch = dirty }

abbrev refuses : ℕ → Given
refuses k = record { refusal = k; pair = 0; set = []; finished = false; sums = no_sums; none = false; scratch = dirty }

table : List Row
unfolding report sync handover stop
table =
    -- P: the order of pairs, by receiver and then owner, from n and n on, to "none": n = 2
    row 2 (report 1 5 ∷ report 2 6 ∷ []) (ask 202 ∷ ask 101 ∷ ask 102 ∷ ask 201 ∷ ask 202 ∷ ask 101 ∷ ask 102 ∷ ask 201 ∷ ask 202 ∷ [])
    (serves 101 [] ∷ serves 102 [] ∷ serves 201 [] ∷ serves 202 [] ∷ serves 101 [] ∷ serves 102 (101 ∷ 201 ∷ []) ∷ serves 201 [] ∷ serves 202 (101 ∷ 201 ∷ []) ∷ none ∷ [])
    -- P: and n = 3
    ∷ row 3 (report 1 5 ∷ report 2 6 ∷ report 3 7 ∷ []) (ask 303 ∷ ask 101 ∷ ask 102 ∷ ask 103 ∷ ask 201 ∷ ask 202 ∷ ask 203 ∷ ask 301 ∷ ask 302 ∷ [])
    (serves 101 [] ∷ serves 102 [] ∷ serves 103 [] ∷ serves 201 [] ∷ serves 202 [] ∷ serves 203 [] ∷ serves 301 [] ∷ serves 302 [] ∷ serves 303 [] ∷ [])
    -- P: the run of RULES.md, section 30 (The dispatcher), from two messages to "none"
    ∷ row 3 (report 1 30 ∷ sync 3 ∷ [])
    (ask 303 ∷ ask 101 ∷ ask 103 ∷ ask 201 ∷ ask 202 ∷ ask 203 ∷ ask 301 ∷ ask 302 ∷ ask 303 ∷ ask 101 ∷ ask 102 ∷ ask 103 ∷ ask 201 ∷ ask 202 ∷ ask 203 ∷ ask 301 ∷ ask 302 ∷ ask 303 ∷ ask 102 ∷ [])
    (serves 101 [] ∷ serves 103 [] ∷ serves 201 [] ∷ serves 202 (101 ∷ []) ∷ serves 203 [] ∷ serves 301 [] ∷ serves 302 (101 ∷ []) ∷ serves 303 [] ∷ serves 101 []
    ∷ serves 102 (101 ∷ 301 ∷ []) ∷ serves 103 [] ∷ serves 201 (301 ∷ []) ∷ serves 202 [] ∷ serves 203 [] ∷ finishes 301 (301 ∷ []) 30 0 ∷ serves 302 [] ∷ serves 303 [] ∷ serves 102 []
    ∷ none ∷ [])
    -- P: the pair named is served last
    ∷ row 2 (report 1 5 ∷ []) (ask 101 ∷ []) (serves 201 [] ∷ [])
    -- P: and is served if it alone has an entry; a stopped receiver is passed over
    ∷ row 1 (report 1 5 ∷ []) (ask 101 ∷ ask 101 ∷ []) (serves 101 (101 ∷ []) ∷ none ∷ [])
    ∷ row 2 (report 1 5 ∷ stop 2 0 ∷ []) (ask 101 ∷ ask 101 ∷ []) (serves 101 [] ∷ none ∷ [])
    -- P: so is a pair whose log was read to its end
    ∷ row 2 (report 1 5 ∷ handover 1 1 ∷ []) (ask 202 ∷ []) (serves 201 [] ∷ [])
    -- a log owner need not run
    ∷ row 2 (report 2 5 ∷ stop 2 1 ∷ []) (ask 202 ∷ ask 102 ∷ ask 101 ∷ []) (serves 102 [] ∷ serves 101 (201 ∷ []) ∷ none ∷ [])
    -- where nobody runs, nothing waits
    ∷ row 2 (report 1 5 ∷ stop 1 1 ∷ stop 2 0 ∷ []) (ask 202 ∷ []) (none ∷ [])
    -- P: "none" with 0 bytes of scratch, and dirty scratch; where an entry waits, 63 bytes give 15, as does none, and 64 are enough
    ∷ row 2 [] (lent 202 0 ∷ []) (none ∷ [])
    ∷ row 2 (report 1 5 ∷ []) (lent 202 63 ∷ lent 202 0 ∷ lent 202 64 ∷ []) (refuses 15 ∷ refuses 15 ∷ serves 101 [] ∷ [])
    -- P: a pair with 0 or n + 1 gives 8, before 15, and also where nothing waits
    ∷ row 2 (report 1 5 ∷ []) (lent 1 0 ∷ lent 100 0 ∷ lent 301 0 ∷ lent 103 0 ∷ lent 0 0 ∷ []) (refuses 8 ∷ refuses 8 ∷ refuses 8 ∷ refuses 8 ∷ refuses 8 ∷ [])
    ∷ row 2 [] (ask 1 ∷ ask 200 ∷ ask 302 ∷ ask 203 ∷ ask 808 ∷ []) (refuses 8 ∷ refuses 8 ∷ refuses 8 ∷ refuses 8 ∷ refuses 8 ∷ [])
    -- P: 4 before 8
    ∷ row 0 [] (lent 0 0 ∷ []) (refuses 4 ∷ [])
    -- and before 15: a read position passes the end of an empty log, and an entry waits in the other
    ∷ record { table = let t = played (fresh 1 2) (report 1 5 ∷ []) in with_controller t 2 (with_read (at t 2) 2); asks = lent 202 0 ∷ []; gives = refuses 4 ∷ [] }
    -- P: a handover that finishes a sync, with the sums over all that its receiver has then applied
    ∷ row 1 (report 1 5 ∷ []) (ask 101 ∷ []) (serves 101 (101 ∷ []) ∷ [])
    ∷ row 1 (report 1 5 ∷ handover 1 1 ∷ sync 1 ∷ []) (ask 101 ∷ []) (finishes 101 (102 ∷ []) 5 0 ∷ [])
    -- and of another's sync it says nothing
    ∷ row 2 (sync 1 ∷ handover 1 1 ∷ handover 2 1 ∷ []) (ask 101 ∷ ask 102 ∷ []) (finishes 102 (101 ∷ []) 0 0 ∷ serves 202 (101 ∷ []) ∷ [])
    ∷ []

results : List Row → List (List Given)
results [] = []
results (r ∷ rs) = called r.table r.asks ∷ results rs

expected : List Row → List (List Given)
expected [] = []
expected (r ∷ rs) = r.gives ∷ expected rs

-- the P cases of the dispatcher, and those of `model`
pub record DispatcherCases : Type 0 where
  dispatcher : results table ≡ expected table
  others : AllCases

pub dispatcher_cases : DispatcherCases
unfolding computed results expected table called given_by played report sync handover stop following waits first_waiting next_pair pair_questions dispatch_questions says_none with_handover with_none dispatch scratch_served
dispatcher_cases = record { dispatcher = refl; others = all_cases }

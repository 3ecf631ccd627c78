-- The cases of RULES.md, section 23 (Edges), that are marked P and are those of ask and commit; and for each two of their questions that can
-- both be no at once, a row in which both are and the first gives the number. One table; and the one theorem of this table and all others.
-- Assumes nothing.
use mathlib.Core.Path.{◌≡◌, refl}
use Prim.Native.Nat.{ℕ, ◌/◌, ◌%◌}
use mathlib.Core.Bool.{Bool, true, false}
use mathlib.Core.List.{List, [], ◌∷◌, map}
use Rattle.model.specs.Tables.{no_sums, fresh, at, with_controller, with_read}
use Rattle.model.specs.Calls.{Outcome, step, scratch_after}
use Rattle.model.specs.declared.Sums.{Sums}
use Rattle.model.specs.declared.Table.{Table}
use Rattle.model.proofs.Computed.{computed}
use Rattle.turns.specs.Dispatcher.{pair}
use Rattle.turns.proofs.Cases.{report, sync, handover, stop, dirty, clear, coded, played, DispatcherCases, dispatcher_cases}
use Rattle.previews.specs.Previews.{sends_by, reads_by, act_count, acts_of, ask_questions, Preview, preview_of, preview, commit_questions, taking, commit}

-- CASES: n controllers, the records of accepted events, and calls, each on the table that the last one left

-- a local read of c
read : ℕ → List ℕ
read c = 2 ∷ 5 ∷ c ∷ []

-- a record; an ask and a commit, with the pair as 100 times its receiver plus its owner, the act count given back, and how many bytes of scratch
data Called : Type 0 where
  sends : List ℕ → Called
  asks : (pair room : ℕ) → Called
  commits : (pair acts room : ℕ) → Called

-- what it gives: the number; the set, each message as 100 times its sender plus its number; the act count; whether an own sync is finished,
-- and the answer's sums; and what is left of 65 bytes of scratch, each 7
record Given : Type 0 where
  refusal : ℕ
  set : List ℕ
  acts : ℕ
  finished : Bool
  sums : Sums
  scratch : List ℕ

answered : Outcome → Given
answered o =
    let a = o.answer in
    record { refusal = a.refusal; set = map coded a.names; acts = 0; finished = a.finished; sums = a.sums; scratch = scratch_after a.refusal dirty }

previewed : Preview → Given
previewed a = record { refusal = a.refusal; set = map coded a.names; acts = a.acts; finished = false; sums = no_sums; scratch = scratch_after a.refusal dirty }

called : Table → List Called → List Given
called t [] = []
called t (sends s ∷ more) = let o = step t s 64 in answered o ∷ called o.table more
called t (asks p room ∷ more) = previewed (preview t (pair (p / 100) (p % 100)) room) ∷ called t more
called t (commits p k room ∷ more) = let o = commit t (pair (p / 100) (p % 100)) k room in answered o ∷ called o.table more

record Row : Type 0 where
  table : Table
  calls : List Called
  gives : List Given

abbrev row : ℕ → List (List ℕ) → List Called → List Given → Row
row n rs cs gs = record { table = played (fresh 1 n) rs; calls = cs; gives = gs }

abbrev ask : ℕ → Called
ask p = asks p 64

abbrev take : ℕ → ℕ → Called
take p k = commits p k 64

-- an accepted ask: the set, and the act count
abbrev shows : List ℕ → ℕ → Given
shows ms k = record { refusal = 0; set = ms; acts = k; finished = false; sums = no_sums; scratch = clear }

-- an accepted event or commit that applies this set: it finishes no sync, or finishes one, with both sums
abbrev applies : List ℕ → Given
applies ms = shows ms 0

abbrev finishes : List ℕ → ℕ → ℕ → Given
finishes ms a w = record { refusal = 0; set = ms; acts = 0; finished = true; sums = record { added = a; withdrawn = w }; scratch = clear }

-- an accepted local read
abbrev reads : ℕ → ℕ → Given
reads a w = record { refusal = 0; set = []; acts = 0; finished = false; sums = record { added = a; withdrawn = w }; scratch = clear }

abbrev refuses : ℕ → Given
refuses k = record { refusal = k; set = []; acts = 0; finished = false; sums = no_sums; scratch = dirty }

table : List Row
unfolding report sync handover stop read
table =
    -- P: the worked run, with an ask and a commit in place of each handover that applies something
    row 3 (report 1 30 ∷ handover 1 1 ∷ handover 2 1 ∷ [])
    (ask 102 ∷ take 102 2 ∷ sends (report 3 65534) ∷ sends (handover 2 3) ∷ ask 202 ∷ take 202 2 ∷ ask 202 ∷ take 202 3 ∷ sends (handover 3 2) ∷ sends (handover 3 2) ∷ ask 301 ∷ take 301 3 ∷ [])
    (shows (101 ∷ []) 2 ∷ applies (101 ∷ []) ∷ applies [] ∷ applies [] ∷ shows (101 ∷ []) 2 ∷ applies (101 ∷ []) ∷ shows (301 ∷ []) 3 ∷ applies (301 ∷ [])
    ∷ applies [] ∷ applies [] ∷ shows (101 ∷ 301 ∷ []) 3 ∷ applies (101 ∷ 301 ∷ []) ∷ [])
    -- P: 21 before 13 and 15: nothing to read, and no scratch; then 13 before 15; then 15, with 63 bytes or none; 64 are enough
    ∷ row 2 (report 1 5 ∷ []) (commits 102 0 0 ∷ commits 102 2 0 ∷ commits 102 1 0 ∷ asks 102 0 ∷ []) (refuses 21 ∷ refuses 21 ∷ refuses 13 ∷ refuses 13 ∷ [])
    ∷ row 2 (report 1 5 ∷ []) (commits 201 1 64 ∷ commits 201 1 0 ∷ commits 201 0 63 ∷ asks 201 63 ∷ commits 201 0 0 ∷ asks 201 0 ∷ asks 201 64 ∷ commits 201 0 64 ∷ [])
    (refuses 21 ∷ refuses 21 ∷ refuses 15 ∷ refuses 15 ∷ refuses 15 ∷ refuses 15 ∷ shows [] 0 ∷ applies [] ∷ [])
    -- P: 10 before 21, and before 13 and 15
    ∷ row 2 (report 1 5 ∷ stop 2 0 ∷ []) (take 201 0 ∷ take 201 1 ∷ commits 202 9 0 ∷ ask 201 ∷ asks 202 0 ∷ []) (refuses 10 ∷ refuses 10 ∷ refuses 10 ∷ refuses 10 ∷ refuses 10 ∷ [])
    -- P: 8 with 0 and n + 1 in each place, before all that follows
    ∷ row 2 (report 1 5 ∷ stop 2 0 ∷ []) (asks 1 0 ∷ asks 100 0 ∷ asks 301 0 ∷ asks 103 0 ∷ asks 203 0 ∷ commits 1 9 0 ∷ commits 100 9 0 ∷ commits 301 9 0 ∷ commits 103 9 0 ∷ commits 203 9 0 ∷ [])
    (refuses 8 ∷ refuses 8 ∷ refuses 8 ∷ refuses 8 ∷ refuses 8 ∷ refuses 8 ∷ refuses 8 ∷ refuses 8 ∷ refuses 8 ∷ refuses 8 ∷ [])
    -- P: 4 before 8; and before all others, where a stopped receiver's read position passes the end of an empty log
    ∷ row 0 [] (asks 0 0 ∷ commits 0 0 0 ∷ []) (refuses 4 ∷ refuses 4 ∷ [])
    ∷ record {
      table = let t = played (fresh 1 2) (report 1 5 ∷ stop 2 0 ∷ []) in with_controller t 2 (with_read (at t 2) 2);
      calls = asks 202 0 ∷ commits 202 9 0 ∷ asks 201 64 ∷ [];
      gives = refuses 4 ∷ refuses 4 ∷ refuses 4 ∷ [];
    }
    -- P: an entry that a stop cuts away gives 13, the count unchanged; one that it keeps is taken
    ∷ row 2 (report 2 5 ∷ []) (ask 102 ∷ sends (stop 2 0) ∷ take 102 0 ∷ []) (shows [] 0 ∷ applies [] ∷ refuses 13 ∷ [])
    ∷ row 2 (report 2 5 ∷ []) (ask 102 ∷ sends (stop 2 1) ∷ take 102 0 ∷ []) (shows [] 0 ∷ applies [] ∷ applies [] ∷ [])
    -- P: a commit that finishes a sync, with the sums over all that its receiver has then applied
    ∷ row 1 (report 1 5 ∷ handover 1 1 ∷ sync 1 ∷ []) (ask 101 ∷ take 101 3 ∷ []) (shows (102 ∷ []) 3 ∷ finishes (102 ∷ []) 5 0 ∷ [])
    -- P: two asks, and two commits with one count: the second gives 21
    ∷ row 1 (report 1 5 ∷ report 1 6 ∷ []) (ask 101 ∷ ask 101 ∷ take 101 2 ∷ take 101 2 ∷ take 101 3 ∷ take 101 4 ∷ [])
    (shows (101 ∷ 102 ∷ []) 2 ∷ shows (101 ∷ 102 ∷ []) 2 ∷ applies (101 ∷ 102 ∷ []) ∷ refuses 21 ∷ applies [] ∷ refuses 13 ∷ [])
    -- P: the list of RULES.md, section 31 (Look at a set, then take it): others act in between, and the set is the one shown
    ∷ row 3 (report 1 30 ∷ report 3 65534 ∷ handover 2 1 ∷ handover 2 3 ∷ handover 3 2 ∷ handover 3 2 ∷ [])
    (ask 301 ∷ sends (report 1 12) ∷ sends (handover 2 1) ∷ take 301 3 ∷ take 301 3 ∷ ask 301 ∷ [])
    (shows (101 ∷ 301 ∷ []) 3 ∷ applies [] ∷ applies [] ∷ applies (101 ∷ 301 ∷ []) ∷ refuses 21 ∷ shows [] 4 ∷ [])
    -- P: a local read of the receiver's is no act, and a report is one
    ∷ row 2 (report 2 7 ∷ []) (ask 102 ∷ sends (read 1) ∷ ask 102 ∷ sends (report 1 5) ∷ take 102 0 ∷ take 102 1 ∷ [])
    (shows [] 0 ∷ reads 0 0 ∷ shows [] 0 ∷ applies [] ∷ refuses 21 ∷ applies [] ∷ [])
    ∷ []

results : List Row → List (List Given)
results [] = []
results (r ∷ rs) = called r.table r.calls ∷ results rs

expected : List Row → List (List Given)
expected [] = []
expected (r ∷ rs) = r.gives ∷ expected rs

-- P: the act count of one that has stopped, which no call shows: two messages, of which one is cut off, an entry read, and the stop
stopped : Table
stopped = played (fresh 1 2) (report 1 5 ∷ report 1 6 ∷ handover 1 1 ∷ handover 2 1 ∷ stop 1 1 ∷ [])

-- all P cases: those of ask and commit, and all others
pub record EveryCase : Type 0 where
  previews : results table ≡ expected table
  act_counts : (acts_of stopped 1 ≡ 4) × (acts_of stopped 2 ≡ 1)
  others : DispatcherCases

pub every_case : EveryCase
unfolding computed results expected table stopped called answered previewed played report sync handover stop read sends_by reads_by act_count ask_questions preview_of preview commit_questions taking commit
every_case = record { previews = refl; act_counts = (refl, refl); others = dispatcher_cases }

-- A run file: its listing, byte for byte, and what the file run answers and leaves.
use Rattle.std.specs.Prelude.{ℕ, zero, suc, ◌+◌, ◌-◌, ◌/◌, ◌%◌, cond, List, [], ◌∷◌, ◌++◌, length, drop, eqb}
use Rattle.lists.specs.Build.{overlay}
use Rattle.model.specs.Tables.{fresh, zero_table}
use Rattle.model.specs.Events.{controller_of, panel_of}
use Rattle.model.specs.Records.{byte, after_record, decode}
use Rattle.model.specs.Questions.{ask, first_no, file_questions, line_fits}
use Rattle.model.specs.Calls.{step, cleared}
use Rattle.model.specs.declared.Name.{Name}
use Rattle.model.specs.declared.Sums.{Sums}
use Rattle.model.specs.declared.Table.{Table}
use Rattle.model.specs.declared.RunAnswer.{RunAnswer}

-- THE LISTING

-- the digits of a number, none of 0; f is any number that is not less
unfoldable pub digits : ℕ → ℕ → List ℕ
digits zero x = []
digits (suc f) zero = []
digits (suc f) (suc x) = digits f (suc x / 10) ++ ((48 + suc x % 10) ∷ [])

-- a number in decimal, without leading zeros
unfoldable pub decimal : ℕ → List ℕ
decimal x = digits x (x / 10) ++ ((48 + x % 10) ∷ [])

-- ' sender.number' for each name
unfoldable pub name_fields : List Name → List ℕ
name_fields [] = []
name_fields (m ∷ ms) = (32 ∷ decimal m.sender) ++ ((46 ∷ decimal m.number.0) ++ name_fields ms)

-- ' sum' for each of the two: what was added, what was withdrawn
unfoldable pub sum_fields : Sums → List ℕ
sum_fields z = (32 ∷ decimal z.added) ++ (32 ∷ decimal z.withdrawn)

-- the line of event number e, in which controller c applied a set and its sums are then z
unfoldable pub line : ℕ → ℕ → Sums → List Name → List ℕ
line e c z ms = decimal e ++ ((32 ∷ decimal c) ++ (sum_fields z ++ (name_fields ms ++ (10 ∷ []))))

-- no line for an empty set
unfoldable pub line_of : ℕ → ℕ → Sums → List Name → List ℕ
line_of e c z [] = []
line_of e c z (m ∷ ms) = line e c z (m ∷ ms)

-- ONE RECORD OF A RUN. The scratch area has `room` bytes and the listing `space`.

-- what a run has done: the refusal number, the events accepted, its lines, its table
pub record Progress : Type 0 where
  pub refusal : ℕ
  pub events : ℕ
  pub lines : List ℕ
  pub table : Table

-- the line of the record that s begins with
unfoldable pub line_at : Progress → List ℕ → ℕ → List ℕ
line_at p s room =
    let o = step p.table s room in
    let c = controller_of (decode p.table.version s) in
    line_of (p.events + 1) c (panel_of o.table c).sums o.answer.names

-- its refusal number, question 16 put last
unfoldable pub verdict : Progress → List ℕ → ℕ → ℕ → ℕ
verdict p s room space =
    let k = (step p.table s room).answer.refusal in
    let line = line_fits (length (line_at p s room)) (space - length p.lines) in
    first_no (ask k (eqb k 0) ∷ line ∷ [])

-- the run after it: one event more, with its line; or refused, and else as it was
unfoldable pub advance : Progress → List ℕ → ℕ → ℕ → Progress
advance p s room space =
    let k = verdict p s room space in
    let on : Progress = record { refusal = 0; events = p.events + 1; lines = p.lines ++ line_at p s room; table = (step p.table s room).table } in
    cond (eqb k 0) on (record { refusal = k; events = p.events; lines = p.lines; table = p.table })

-- THE RUN

-- the records of s, at most f of them, until the first refusal
unfoldable pub records : ℕ → Progress → List ℕ → ℕ → ℕ → Progress
records zero p s room space = p
records (suc f) p [] room space = p
records (suc f) p (b ∷ s) room space =
    let q = advance p (b ∷ s) room space in
    let on = records f q (after_record (b ∷ s)) room space in
    cond (eqb q.refusal 0) on q

unfoldable pub begun : ℕ → ℕ → Progress
begun v n = record { refusal = 0; events = 0; lines = []; table = fresh v n }

-- the records of a whole file, of which there are fewer than bytes
unfoldable pub progress : List ℕ → ℕ → ℕ → Progress
progress s room space = records (length s) (begun (byte s 0) (byte s 1)) (drop 2 s) room space

-- what a file run answers, and what it leaves
pub record RunOutcome : Type 0 where
  pub answer : RunAnswer
  pub listing : List ℕ
  pub scratch : List ℕ

unfoldable pub ran : Progress → List ℕ → List ℕ → RunOutcome
ran p listing scratch = record {
  answer = record { refusal = p.refusal; events = p.events; written = length p.lines; table = p.table };
  listing = overlay p.lines listing;
  scratch = cond (eqb p.events 0) scratch (cleared scratch);
}

unfoldable pub file_run : List ℕ → List ℕ → List ℕ → RunOutcome
file_run s listing scratch =
    let k = first_no (file_questions s) in
    let on = ran (progress s (length scratch) (length listing)) listing scratch in
    cond (eqb k 0) on
    (record { answer = record { refusal = k; events = 0; written = 0; table = zero_table }; listing = listing; scratch = scratch })

-- the lines that the program writes before and after the listing
unfoldable pub header : ℕ → List ℕ
header n = (99 ∷ 111 ∷ 110 ∷ 116 ∷ 114 ∷ 111 ∷ 108 ∷ 108 ∷ 101 ∷ 114 ∷ 115 ∷ 32 ∷ []) ++ (decimal n ++ (10 ∷ []))

unfoldable pub footer : ℕ → ℕ → List ℕ
footer e k = (101 ∷ 110 ∷ 100 ∷ 32 ∷ []) ++ (decimal e ++ ((32 ∷ decimal k) ++ (10 ∷ [])))

-- A file run: its listing, read back, gives legal steps from the fresh table to the one that the run leaves. Assumes nothing.
use Prim.Native.Nat.{ℕ, zero, suc, ◌+◌, ◌≤◌}
use mathlib.Core.Path.{◌≡◌, refl, sym, ap, ap₂, ◌∙◌}
use mathlib.Core.Logic.{◌≢◌}
use mathlib.Core.Bool.{cond}
use mathlib.Core.List.{List, [], ◌∷◌, ◌++◌, append-nil, append_assoc}
use native.Mathlib.Omega.{arith}
use lib.ListN.{length, drop}
use lib.Seq.{take-append_seam}
use lib.Dec.{eqb}
use borrow.Author.Tests.{eq-eqb, ne_eqb}
use Rattle.lists.specs.Build.{overlay}
use Rattle.lists.proofs.Tests.{cond_true, cond_false}
use Rattle.model.specs.Tables.{fresh}
use Rattle.model.specs.Events.{controller_of}
use Rattle.model.specs.Records.{byte, after_record, decode}
use Rattle.model.specs.Questions.{first_no, file_questions, step_questions}
use Rattle.model.specs.Calls.{Outcome, accepted, step}
use Rattle.model.specs.Runs.{Progress, line_at, verdict, records, begun, progress, ran, file_run}
use Rattle.model.proofs.Allowed.{step_asked}
use Rattle.model.proofs.Steps.{step_is_accepted, accepted_asked, file_run_ran}
use Rattle.model.proofs.Runs.{gone, verdict_passed, advance_case}
use Rattle.consistency.specs.Entries.{Line, Entry, listed}
use Rattle.consistency.specs.Lines.{split, no_line, line_for, record_entries, file_entries}
use Rattle.consistency.specs.Courses.{Course, told, line_after, Gives}
use Rattle.consistency.proofs.Reader.{event_read, end_read}

-- READING

-- what is read of records rests on the lines of their events
entries-same : (k e : ℕ) (s : List ℕ) (ls ms : List (List ℕ)) → ((n : ℕ) → e ≤ n → line_for n ls ≡ line_for n ms)
    → record_entries k e s ls ≡ record_entries k e s ms
unfolding record_entries
entries-same zero e s ls ms h = refl
entries-same (suc k) e s ls ms h =
    ap₂ (λ (x : Line) (xs : List Entry). listed s x ∷ xs) (h e (omega arith)) (entries-same k (e + 1) (after_record s) ls ms (λ n l. h n (omega arith)))

-- After p the run q has accepted the first `many` of the records of s, and its lines after those of p are legal steps when read back.
record Done (p : Progress) (s : List ℕ) (q : Progress) : Type 0 where
  many : ℕ
  tail : List ℕ
  events : q.events ≡ p.events + many
  lines : q.lines ≡ p.lines ++ tail
  later : (n : ℕ) → n ≤ p.events → line_for n (split 10 tail) ≡ no_line
  course : Course told Gives p.table (record_entries many (p.events + 1) s (split 10 tail)) q.table

stopped : (p : Progress) (s : List ℕ) (k : ℕ) → Done p s (record { refusal = k; events = p.events; lines = p.lines; table = p.table })
unfolding record_entries Course
stopped p s k = record { many = 0; tail = []; events = omega arith; lines = sym (append-nil p.lines); later = λ n _. end_read n; course = refl }

-- ONE RECORD MORE

module _ (p : Progress) (s : List ℕ) (room space : ℕ) (v : verdict p s room space ≡ 0) where
  abbrev c : ℕ
  c = controller_of (decode p.table.version s)

  -- what its line says
  abbrev says : Line
  says = line_after c (step p.table s room)

  abbrev e : ℕ
  e = p.events + 1

  asked : first_no (step_questions p.table s room) ≡ 0
  asked = accepted_asked p.table s room (verdict_passed p s room space v).0

  taken : step p.table s room ≡ accepted p.table s
  taken = step_is_accepted p.table s room asked

  module _ (k : ℕ) (tail : List ℕ) (later : (n : ℕ) → n ≤ e → line_for n (split 10 tail) ≡ no_line) where
    own_read : (n : ℕ) → line_for n (split 10 (line_at p s room ++ tail)) ≡ cond (eqb e n) says (line_for n (split 10 tail))
    unfolding line_at
    own_read n = event_read n e c _ _ tail (λ q. later n (omega arith))

    other_read : (n : ℕ) → e ≢ n → line_for n (split 10 (line_at p s room ++ tail)) ≡ line_for n (split 10 tail)
    other_read n d = own_read n ∙ cond_false _ _ (ne_eqb e n d)

    first_read : record_entries (suc k) e s (split 10 (line_at p s room ++ tail)) ≡ listed s says ∷ record_entries k (e + 1) (after_record s) (split 10 tail)
    unfolding record_entries
    first_read =
        ap₂ (λ (x : Line) (xs : List Entry). listed s x ∷ xs) (own_read e ∙ cond_true _ _ (eq-eqb e e refl))
        (entries-same k (e + 1) (after_record s) _ _ (λ n l. other_read n (omega arith)))

  went_on : (q : Progress) → Done (gone p s room space) (after_record s) q → Done p s q
  unfolding Course Gives told
  went_on q d = record {
    many = suc d.many;
    tail = line_at p s room ++ d.tail;
    events = omega arith;
    lines = d.lines ∙ append_assoc p.lines (line_at p s room) d.tail;
    later = λ n l. other_read d.many d.tail d.later n (omega arith) ∙ d.later n (omega arith);
    course = rw (first_read d.many d.tail d.later)
        (((step_asked p.table s room asked).1, ap (λ (o : Outcome). line_after c o) taken), rw taken at d.course);
  }

-- THE RUN

run_done : (f : ℕ) (p : Progress) (s : List ℕ) (room space : ℕ) → Done p s (records f p s room space)
unfolding records
run_done zero p s room space = stopped p s p.refusal
run_done (suc f) p [] room space = stopped p [] p.refusal
run_done (suc f) p (b ∷ s) room space =
    advance_case p (b ∷ s) room space (λ q. Done p (b ∷ s) (cond (eqb q.refusal 0) (records f q (after_record (b ∷ s)) room space) q))
    (λ v. went_on p (b ∷ s) room space v _ (run_done f (gone p (b ∷ s) room space) (after_record (b ∷ s)) room space))
    (λ d. rw (ne_eqb (verdict p (b ∷ s) room space) 0 d) (stopped p (b ∷ s) (verdict p (b ∷ s) room space)))

ran_course : (v n : ℕ) (s listing scratch : List ℕ) (q : Progress) → Done (begun v n) (drop 2 s) q
    → Course told Gives (fresh v n) (file_entries s (ran q listing scratch)) (ran q listing scratch).answer.table
unfolding begun file_entries ran overlay
ran_course v n s listing scratch q d =
    let k : q.events ≡ d.many = omega arith in
    rw (take-append_seam q.lines (drop (length q.lines) listing), d.lines, k) d.course

-- What a file run puts first in a list is legal steps from the fresh table to the one that it answers.
pub file_course : (s listing scratch : List ℕ) → first_no (file_questions s) ≡ 0
    → Course told Gives (fresh (byte s 0) (byte s 1)) (file_entries s (file_run s listing scratch)) (file_run s listing scratch).answer.table
unfolding progress
file_course s listing scratch q =
    rw (file_run_ran s listing scratch q)
    (ran_course (byte s 0) (byte s 1) s listing scratch _ (run_done (length s) (begun (byte s 0) (byte s 1)) (drop 2 s) (length scratch) (length listing)))

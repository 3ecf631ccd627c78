-- `run` refuses a file by questions 1 to 3, or carries out its records.
use Rattle.std.proofs.Common.{◌≡◌, List, ℕ, length, sym}
use Rattle.model.specs.Questions.{first_no, file_questions}
use Rattle.files.specs.declared.Header.{Header}
use Rattle.files.specs.Turns.{header_of, file_refusal}
use Rattle.files.proofs.FileQuestions.{run_refused, run_ran}
use Rattle.files.proofs.run.Goals as goal

-- the number that the code asks for is that of the file
file_asked : (s : List ℕ) (h : Header) → h ≡ header_of s → (k : ℕ) → k ≡ file_refusal (length s) h.version h.n → k ≡ first_no (file_questions s)
unfolding file_questions file_refusal header_of
file_asked s h eh k e = rw eh at e

pub returns-in-Err : goal.returns-in-Err
returns-in-Err c =
    let e = file_asked _ _ c.read_header-head.ensures _ c.in-Err.ensures in
    rw c.answered.ensures (run_refused _ _ _ _ e _ _ (rw c.from.ensures at c.opened-table.ensures))

pub returns : goal.returns
returns c =
    let z = file_asked _ _ c.read_header-head.ensures _ c.in_default.ensures in
    rw c.answered-2.ensures (run_ran _ _ _ (sym z) _ _ _ c.run_records-outcome.ensures)

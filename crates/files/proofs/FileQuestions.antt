-- The file run after questions 1 to 3. Assumes nothing.
use mathlib.Core.Path.{◌≡◌, refl, sym, ap, ◌∙◌}
use mathlib.Core.Bool.{cond}
use mathlib.Core.List.{List}
use Prim.Native.Nat.{ℕ}
use lib.Dec.{eqb}
use borrow.Author.Tests.{ne_eqb}
use Rattle.model.specs.Tables.{zero_table}
use Rattle.model.specs.Refusals.{refusal_number}
use Rattle.model.specs.Questions.{first_no, file_questions}
use Rattle.model.specs.Runs.{RunOutcome, file_run}
use Rattle.model.specs.declared.Table.{Table}
use Rattle.model.specs.declared.RunAnswer.{RunAnswer}
use Rattle.model.specs.declared.refusal.Refusal.{Refusal}
use Rattle.model.proofs.Steps.{file_run_ran}
use Rattle.model.proofs.Refused.{refusal_is}
use Rattle.files.specs.FileRun.{Runs}
use Rattle.files.specs.Turns.{at_start, answer_at, Ran}

module _ (s l w : List ℕ) where
  pub run_refused : (r : Refusal) → refusal_number r ≡ first_no (file_questions s) → (x y : Table) → x ≡ cond (eqb (refusal_number r) 0) y zero_table
      → Runs s l w (answer_at at_start (refusal_number r) x) l w
  unfolding file_run answer_at
  run_refused r e x y ex =
      let n = ne_eqb (refusal_number r) 0 (refusal_is r) in
      record { outcome = rw (ex, ← e, n) refl; listed = rw (← e, n) refl; clear = rw (← e, n) refl }

  pub run_ran : first_no (file_questions s) ≡ 0 → (r : RunAnswer) (m v : List ℕ) → Ran s l w r m v → Runs s l w r m v
  run_ran z r m v d =
      let o = sym (file_run_ran s l w z) in
      record {
        outcome = d.outcome ∙ ap (λ (x : RunOutcome). x.answer) o;
        listed = d.listed ∙ ap (λ (x : RunOutcome). x.listing) o;
        clear = d.clear ∙ ap (λ (x : RunOutcome). x.scratch) o;
      }

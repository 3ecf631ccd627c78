-- What the file run answers and leaves, as its caller gets it.
use Rattle.std.specs.Prelude.{◌≡◌, List, ℕ}
use Rattle.model.specs.Runs.{file_run}
use Rattle.model.specs.declared.RunAnswer.{RunAnswer}

-- the run of the file s, lent the listing l and the scratch area w
pub record Runs (s l w : List ℕ) (answer : RunAnswer) (listing scratch : List ℕ) : Type 0 where
  pub outcome : answer ≡ (file_run s l w).answer
  pub listed : listing ≡ (file_run s l w).listing
  pub clear : scratch ≡ (file_run s l w).scratch

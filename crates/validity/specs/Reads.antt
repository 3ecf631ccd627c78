-- What is answered of the writes of a run, of a log and of a buffer, where they are good, and that nothing is answered where they are not.
use Rattle.std.specs.Prelude.{ℕ, ◌≤◌, ◌<◌, ◌≡◌, Bool, true, false, List, length, get_or, Option, MatchOption}
use Rattle.lists.specs.Below.{all, distinct}
use Rattle.lists.specs.Build.{tabulate}
use Rattle.model.specs.Tables.{capacity, no_message, yes?, entry}
use Rattle.model.specs.Facts.{in_log}
use Rattle.model.specs.WellFormed.{same_stamp, good_log}
use Rattle.model.specs.declared.Controller.{Controller}
use Rattle.model.specs.declared.Message.{Message}
use Rattle.model.specs.declared.Pending.{Pending}
use Rattle.validity.specs.Flags.{writer_of, good_entry}
use Rattle.validity.specs.declared.handed.Writes.{Writes}

-- the senders of the writes among the first k messages, 0 where there is none, and so from the end on
pub record Wrote (k : ℕ) (M : List Message) (end : ℕ) (W : List ℕ) : Type 0 where
  pub within : end ≤ k
  pub senders : (s : ℕ) → s < k → get_or W s 0 ≡ writer_of (get_or M s no_message)
  pub rest : (s : ℕ) → end ≤ s → s < capacity → get_or W s 0 ≡ 0

-- whether no two of the first k messages are writes with the same stamp
unfoldable pub each_write : ℕ → List Message → Bool
each_write k M = distinct k (λ i j. same_stamp (get_or M i no_message) (get_or M j no_message))

abbrev pub ReadsWrites : List Message → Option Writes → Type 0
ReadsWrites M r = MatchOption r (each_write (length M) M ≡ false) (λ w. (each_write (length M) M ≡ true) × Wrote (length M) M w.end w.senders)

-- the log of c, among the messages of a run of k
abbrev pub ReadsLog : ℕ → Controller → Option (List Bool) → Type 0
ReadsLog k c r = MatchOption r (good_log k c ≡ false) (λ F. (good_log k c ≡ true) × (F ≡ tabulate capacity (in_log c)))

-- the entries of a buffer, of a run of n controllers
unfoldable pub good_held : ℕ → List Pending → Bool
good_held n P = all capacity (λ s. good_entry n (entry P s))

abbrev pub ReadsBuffer : ℕ → List Pending → Option (List Bool) → Type 0
ReadsBuffer n P r = MatchOption r (good_held n P ≡ false) (λ F. (good_held n P ≡ true) × (F ≡ tabulate capacity (λ s. yes? (entry P s).held)))

-- What the well-formed test asks of one controller: but for its read positions, of its own writes, and all.
use Rattle.std.specs.Prelude.{ℕ, Bool, not, ◌&&◌, ◌||◌, List, length, get_or, eqb, leb}
use Rattle.std.specs.Bool.{beq}
use Rattle.lists.specs.Below.{all}
use Rattle.model.specs.Tables.{Messages, first_of, yes?, controller_in, held, applied}
use Rattle.model.specs.Facts.{in_log}
use Rattle.model.specs.WellFormed.{good_log, good_marks, good_buffer, good_highest, good_controller}
use Rattle.model.specs.declared.Controller.{Controller}
use Rattle.model.specs.declared.Message.{Message}

-- the messages of a run, where the list has no others
abbrev pub all_sent : List Message → Messages
all_sent M = first_of (length M) M

-- the clauses of a controller, of a run of n controllers, where its greatest number sent is given, but for its read positions
unfoldable pub good_alone : ℕ → Messages → ℕ → Controller → Bool
good_alone n M sent c =
    good_log M.count c && (good_marks n M.count c && (good_buffer M.count c && (good_highest n M c
    && (not (yes? c.running) || (all M.count (λ s. beq (in_log c s) (held c s || applied c s)) && leb sent c.length)))))

-- controller i, while it runs, has each write that it sent pending or applied, where the senders of the writes in the first k slots are given
unfoldable pub keeps_own : ℕ → List ℕ → ℕ → Controller → Bool
keeps_own k W i c = all k (λ s. not (eqb (get_or W s 0) i) || (not (yes? c.running) || (held c s || applied c s)))

-- the clauses of controller i, and of its writes
unfoldable pub good_with : ℕ → Messages → List Controller → ℕ → List ℕ → ℕ → Bool
good_with n M C k W i = keeps_own k W i (controller_in C i) && good_controller n M C i (controller_in C i)

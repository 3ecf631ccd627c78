-- The names of messages, sender and number, and lists of them.
use Rattle.std.specs.Prelude.{ℕ, Bool, false, ◌&&◌, ◌||◌, List, [], ◌∷◌, eqb}
use Rattle.model.specs.Tables.{message_number}
use Rattle.model.specs.declared.Name.{Name}

abbrev pub name : ℕ → ℕ → Name
name c k = record { sender = c; number = message_number k }

unfoldable pub same : Name → Name → Bool
same a b = eqb a.sender b.sender && eqb a.number.0 b.number.0

unfoldable pub has : Name → List Name → Bool
has m [] = false
has m (x ∷ xs) = same m x || has m xs

-- a message comes twice
unfoldable pub twice : List Name → Bool
twice [] = false
twice (x ∷ xs) = has x xs || twice xs

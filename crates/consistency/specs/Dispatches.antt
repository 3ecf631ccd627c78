-- What is read of handovers, of a controller's acts and of the dispatcher from a part of a list (RULES.md, sections 20, 30 and 31).
use Rattle.std.specs.Prelude.{ℕ, ◌≤◌, ◌≡◌, ◌⊎◌, Bool, true, false, not, ◌&&◌, cond, length, eqb, leb}
use mathlib.Core.List.{List, [], ◌∷◌, flat_map}
use Rattle.lists.specs.Below.{tally}
use Rattle.model.specs.Tables.{scratch_size}
use Rattle.model.specs.Events.{subject}
use Rattle.model.specs.Fair.{named}
use Rattle.turns.specs.Dispatcher.{Dispatched, says_none}
use Rattle.model.specs.declared.Pair.{Pair}
use Rattle.model.specs.declared.Event.{Event}
use Rattle.model.specs.declared.Event.TheVariants.{Send, Handover, Stop}
use Rattle.consistency.specs.Entries.{dispatching, committing, Entry, answered, observed, served, handed, listed, Step, carried}

-- STEPS

unfoldable pub is_stop : Event → Bool
is_stop (Send c p) = false
is_stop (Handover r o) = false
is_stop (Stop c k) = true

unfoldable pub is_handover : Event → Bool
is_handover (Send c p) = false
is_handover (Handover r o) = true
is_handover (Stop c k) = false

-- nobody stops
unfoldable pub NoStop : List Step → Type 0
NoStop [] = Unit {0}
NoStop (carried r e ms ∷ xs) = (is_stop e ≡ false) × NoStop xs

-- how many handovers are accepted, of whatever making
unfoldable pub handover_count : List Step → ℕ
handover_count [] = 0
handover_count (carried r e ms ∷ xs) = tally (is_handover e) (handover_count xs)

-- how often controller c acts: "it sent a message, was the receiver of a handover or stopped"
unfoldable pub acts_in : ℕ → List Step → ℕ
acts_in c [] = 0
acts_in c (carried r e ms ∷ xs) = tally (eqb (subject e) c) (acts_in c xs)

-- a stop cuts the log of o to no more than k entries
unfoldable pub CutAway : List Step → ℕ → ℕ → Type 0
CutAway [] o k = ⊥
CutAway (carried r (Send c p) ms ∷ xs) o k = CutAway xs o k
CutAway (carried r (Handover c d) ms ∷ xs) o k = CutAway xs o k
CutAway (carried r (Stop c j) ms ∷ xs) o k = ((c ≡ o) × (j ≤ k)) ⊎ CutAway xs o k

-- THE DISPATCHER'S HANDOVERS

-- the pair that a call named, and the pair that it served
pub record Dispatch : Type 0 where
  pub named : Pair
  pub served : Pair

unfoldable pub dispatch_in : Entry → List Dispatch
dispatch_in (answered s w a) = []
dispatch_in (observed o a) = []
dispatch_in (served s a) = []
dispatch_in (handed (dispatching p w) q a) = record { named = p; served = q } ∷ []
dispatch_in (handed (committing p k w) q a) = []
dispatch_in (listed s x) = []

abbrev pub dispatches : List Entry → List Dispatch
dispatches es = flat_map dispatch_in es

-- each names the pair that the one before it served, and the first of them p
unfoldable pub FollowOn : Pair → List Dispatch → Type 0
FollowOn p [] = Unit {0}
FollowOn p (x ∷ xs) = (x.named ≡ p) × FollowOn x.served xs

-- THE DISPATCHER'S ANSWERS to calls that name two of n controllers and lend enough scratch

unfoldable pub answer_in : ℕ → Entry → List Dispatched
answer_in n (answered s w a) = []
answer_in n (observed o a) = []
answer_in n (served (dispatching p w) a) = cond (named n p.receiver && (named n p.owner && leb scratch_size (length w))) (a ∷ []) []
answer_in n (served (committing p k w) a) = []
answer_in n (handed s p a) = []
answer_in n (listed s x) = []

abbrev pub dispatch_answers : ℕ → List Entry → List Dispatched
dispatch_answers n es = flat_map (answer_in n) es

-- how many of them do not say "none"
unfoldable pub not_none : List Dispatched → ℕ
not_none [] = 0
not_none (a ∷ rest) = tally (not (says_none a)) (not_none rest)

-- The dispatcher (RULES.md, section 30): which handover is next, and what the call answers and leaves. It goes round all pairs of a
-- receiver and a log owner, so that none waits for ever.
use Rattle.std.specs.Prelude.{ℕ, zero, suc, ◌+◌, ◌*◌, Bool, not, ◌&&◌, ◌||◌, cond, List, [], ◌∷◌, eqb, leb, ltb}
use Rattle.model.specs.Tables.{scratch_size, yes?, controller_in}
use Rattle.model.specs.Events.{next}
use Rattle.model.specs.Fair.{named}
use Rattle.model.specs.Questions.{Question, ask, first_no, lent_table, unread}
use Rattle.model.specs.Calls.{EventAnswer, answering, refused, cleared, answer_of}
use Rattle.model.specs.declared.Pair.{Pair}
use Rattle.model.specs.declared.Controller.{Controller}
use Rattle.model.specs.declared.Table.{Table}
use Rattle.model.specs.declared.Event.{Event}
use Rattle.model.specs.declared.Event.TheVariants.{Handover}
use Rattle.model.specs.declared.Command.TheVariants.{Act}
use Rattle.model.specs.declared.DispatchAnswer.{DispatchAnswer}

-- PAIRS

abbrev pub pair : ℕ → ℕ → Pair
pair r o = record { receiver = r; owner = o }

-- 0 and 0, the pair of no handover
abbrev pub no_pair : Pair
no_pair = pair 0 0

abbrev pub some? : Pair → Bool
some? p = ltb 0 p.receiver

abbrev pub handover : Pair → Event
handover p = Handover p.receiver p.owner

-- THE ORDER

-- "ordered by receiver and then owner": the pair after p, of n controllers; after the last comes the first
unfoldable pub following : ℕ → Pair → Pair
following n p =
    cond (ltb p.owner n) (pair p.receiver (p.owner + 1))
    (cond (ltb p.receiver n) (pair (p.receiver + 1) 1)
    (pair 1 1))

-- "It passes over stopped receivers and pairs without an unread entry": whether p is neither
unfoldable pub waits : List Controller → Pair → Bool
waits C p =
    let x = controller_in C p.receiver in
    let y = controller_in C p.owner in
    yes? x.running && unread x y p.owner

-- the first of the k pairs after p that waits; no pair if none does
unfoldable pub first_waiting : ℕ → ℕ → List Controller → Pair → Pair
first_waiting zero n C p = no_pair
first_waiting (suc k) n C p =
    let q = following n p in
    let r = first_waiting k n C q in
    cond (waits C q) q r

-- "continues behind the pair the caller names": of all n x n pairs, the one named is tried last
unfoldable pub next_pair : ℕ → List Controller → Pair → Pair
next_pair n C p = first_waiting (n * n) n C p

-- THE CALL

-- question 8, of the pair named; then 15, which is put where a handover is to be made: of q, the next pair, and `room` bytes of scratch
unfoldable pub pair_questions : ℕ → Pair → Pair → ℕ → List Question
pair_questions n p q room = ask 8 (named n p.receiver && named n p.owner) ∷ ask 15 (not (some? q) || leb scratch_size room) ∷ []

-- question 4, and then these
unfoldable pub dispatch_questions : Table → Pair → Pair → ℕ → List Question
dispatch_questions t p q room = lent_table t ∷ pair_questions t.n p q room

-- what it answers: "its pair and set", and what else the event call answers of a handover
pub record Dispatched : Type 0 where
  pub pair : Pair
  pub answer : EventAnswer

-- it says "none": number 0, and the pair 0 and 0
unfoldable pub says_none : Dispatched → Bool
says_none a = eqb a.answer.refusal 0 && not (some? a.pair)

-- what it leaves besides
pub record DispatchOutcome : Type 0 where
  pub answer : Dispatched
  pub table : Table

-- the handover of q
unfoldable pub with_handover : Table → Pair → DispatchOutcome
with_handover t q = record { answer = record { pair = q; answer = answering t (Act (handover q)) [] }; table = next t (handover q) }

-- a refusal by k; with 0 for k it is "none"
unfoldable pub with_none : Table → ℕ → DispatchOutcome
with_none t k = record { answer = record { pair = no_pair; answer = (refused t [] k).answer }; table = t }

unfoldable pub dispatch : Table → Pair → ℕ → DispatchOutcome
dispatch t p room =
    let q = next_pair t.n t.controllers p in
    let k = first_no (dispatch_questions t p q room) in
    let s = with_handover t q in
    cond (eqb k 0 && some? q) s (with_none t k)

-- the scratch area after a call that answers the pair q: "nothing lent changed" where that is none
unfoldable pub scratch_served : Pair → List ℕ → List ℕ
scratch_served q w = cond (some? q) (cleared w) w

-- the answer as the caller gets it
unfoldable pub dispatch_answer_of : Dispatched → DispatchAnswer
dispatch_answer_of a = record { pair = a.pair; answer = answer_of a.answer }

-- Question 4 as a test of the table. Each clause stands for the words of RULES.md, section 15 (Well formed), above it.
-- It passes exactly where the facts of Facts.antt hold: proofs/Tested.antt.
use Rattle.std.specs.Prelude.{ℕ, suc, Bool, not, ◌&&◌, ◌||◌, List, eqb, leb, ltb}
use Rattle.std.specs.Bool.{beq}
use Rattle.lists.specs.Below.{all, distinct}
use Rattle.model.specs.Tables.{Messages, seats, capacity, write_kind, absent, yes?, controller_in, message_in, at, message, messages_of, slot_at, place, entry, held, mark, applied, highest}
use Rattle.model.specs.Fair.{known, named, fair_amount, fair_class, fair_register, fair_date}
use Rattle.model.specs.Facts.{in_log, greatest_applied}
use Rattle.model.specs.declared.Message.{Message}
use Rattle.model.specs.declared.Controller.{Controller}
use Rattle.model.specs.declared.Table.{Table}

unfoldable pub same_name : Message → Message → Bool
same_name a b = eqb a.sender b.sender && eqb a.number.0 b.number.0

-- two writes of one sender and register, with one date
unfoldable pub same_stamp : Message → Message → Bool
same_stamp a b =
    eqb a.payload.kind write_kind && (eqb b.payload.kind write_kind
    && (eqb a.sender b.sender && (eqb a.payload.reg b.payload.reg && eqb a.date b.date)))

-- the version is 1 or 2; "n and the message count are in range"
unfoldable pub in_range : Table → Bool
in_range t = known t.version && (ltb 0 t.n && (leb t.n seats && leb t.count capacity))

-- "messages have distinct names, senders 1 to n, numbers 1 to 64, and reports have amounts as in question 9", and classes as in 17;
-- writes have registers as in 19, and dates
unfoldable pub good_message : ℕ → ℕ → ℕ → Message → Bool
good_message v n k m =
    named n m.sender
    && (ltb 0 m.number.0 && (leb m.number.0 capacity
    && (fair_amount m.payload && (fair_class v m.payload && (fair_register m.payload && fair_date k m)))))

unfoldable pub good_messages : ℕ → ℕ → Messages → Bool
good_messages v n M =
    distinct M.count (λ i j. same_name (message_in M.slots i) (message_in M.slots j))
    && all M.count (λ s. good_message v n M.count (message_in M.slots s))

-- the sender of a write, while it runs, has it pending or applied
unfoldable pub kept_write : Table → ℕ → Bool
kept_write t s =
    let c = at t (message t s).sender in
    not (eqb (message t s).payload.kind write_kind) || (not (yes? c.running) || (held c s || applied c s))

-- two writes of one sender and register have different dates; a running controller has each write that it sent pending or applied
unfoldable pub good_writes : Table → Bool
good_writes t =
    distinct t.count (λ i j. same_stamp (message t i) (message t j))
    && all t.count (kept_write t)

-- "a log names only messages of the run, none twice"
unfoldable pub good_log : ℕ → Controller → Bool
good_log count c =
    leb c.length capacity
    && (all c.length (λ k. ltb (slot_at c k) count)
    && distinct c.length (λ i j. eqb (slot_at c i) (slot_at c j)))

-- "read positions do not pass log ends"
unfoldable pub good_places : ℕ → List Controller → Controller → Bool
good_places n C c = all n (λ o. leb (place c (suc o)) (controller_in C (suc o)).length)

-- "marks are absent or 1 to 64"
unfoldable pub good_mark : ℕ → Bool
good_mark k = eqb k absent || (ltb 0 k && leb k capacity)

unfoldable pub good_marks : ℕ → ℕ → Controller → Bool
good_marks n count c = all count (λ s. not (held c s) || all n (λ f. good_mark (mark (entry c.pending s) f)))

-- "No message is both pending and applied at a controller"; and none of either is out of the run
unfoldable pub good_buffer : ℕ → Controller → Bool
good_buffer count c =
    all count (λ s. not (held c s && applied c s))
    && all capacity (λ s. ltb s count || (not (held c s) && not (applied c s)))

-- "its highest applied numbers agree with what it applied"
unfoldable pub good_highest : ℕ → Messages → Controller → Bool
good_highest n M c = all n (λ x. eqb (highest c (suc x)) (greatest_applied M c.applied (suc x)))

-- "A running controller's log names exactly what it has pending or applied, and is at least as long as any message number it sent"
unfoldable pub good_running : Messages → ℕ → Controller → Bool
good_running M i c =
    not (yes? c.running)
    || (all M.count (λ s. beq (in_log c s) (held c s || applied c s))
    && all M.count (λ s. let m = message_in M.slots s in not (eqb m.sender i) || leb m.number.0 c.length))

-- controller i, which is c, among the n first of C
unfoldable pub good_controller : ℕ → Messages → List Controller → ℕ → Controller → Bool
good_controller n M C i c =
    good_log M.count c
    && (good_places n C c && (good_marks n M.count c && (good_buffer M.count c && (good_highest n M c && good_running M i c))))

unfoldable pub well_formed : Table → Bool
well_formed t =
    let M = messages_of t in
    in_range t
    && (good_messages t.version t.n M
    && (good_writes t && all t.n (λ i. good_controller t.n M t.controllers (suc i) (at t (suc i)))))

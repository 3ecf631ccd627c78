-- An accepted record says what the message sent has for a payload, and every legal step keeps the ledger and the table saying
-- the same. Assumes nothing.
use mathlib.Core.Path.{◌≡◌, refl, sym, ap, subst, ◌∙◌}
use mathlib.Core.Bool.{Bool, true, false, cond, false≢true}
use mathlib.Core.List.{List}
use Prim.Native.Nat.{ℕ, zero, suc, ◌+◌, ◌-◌, ◌<◌}
use native.Mathlib.Omega.{arith}
use lib.IntN.{ℤ, pos, neg_ℤ, ◌+ℤ◌, ◌-ℤ◌, +ℤ_idr, +ℤ_assoc, +ℤ_invr, neg_ℤ-+ℤ, pos-+ℤ-pos}
use lib.Dec.{ltb}
use Rattle.model.specs.Tables.{report, messages_of}
use Rattle.model.specs.Records.{word, report_class, reported, decode}
use Rattle.model.specs.Events.{next, applied_by, names_of}
use Rattle.model.specs.Questions.{first_no, event_questions}
use Rattle.model.specs.Fair.{fair_magnitude, fair_amount}
use Rattle.model.specs.declared.Name.{Name}
use Rattle.model.specs.declared.Payload.{Payload}
use Rattle.model.specs.declared.Table.{Table}
use Rattle.model.specs.declared.Event.{Event}
use Rattle.model.specs.declared.Event.TheVariants.{Send, Handover, Stop}
use Rattle.model.specs.declared.Command.TheVariants.{Act}
use Rattle.model.proofs.Allowed.{SendRecord, reports, syncs, writes, send_record, send_allowed}
use Rattle.broadcast.specs.State.{State}
use Rattle.consistency.specs.Entries.{Said, twos, amount_in, class_in, register_in, value_in, said, carried}
use Rattle.consistency.specs.Ledger.{Ledger, moved}
use Rattle.consistency.proofs.Bridge.{Related}
use Rattle.consistency.proofs.Recorded.{said_of, Recorded}
use Rattle.consistency.proofs.RecordedSend.{send_recorded}
use Rattle.consistency.proofs.RecordedHandover.{handover_recorded}
use Rattle.consistency.proofs.RecordedStop.{stop_recorded}

-- WHAT A RECORD SAYS

minus_sum : (x y : ℕ) → pos x -ℤ pos (x + y) ≡ pos 0 -ℤ pos y
minus_sum x y =
    ap (λ k. pos x +ℤ neg_ℤ k) (sym (pos-+ℤ-pos x y))
    ∙ ap (λ k. pos x +ℤ k) (neg_ℤ-+ℤ (pos x) (pos y))
    ∙ sym (+ℤ_assoc (pos x) (neg_ℤ (pos x)) (neg_ℤ (pos y)))
    ∙ ap (λ k. k +ℤ neg_ℤ (pos y)) (+ℤ_invr (pos x))

positive : (k w : ℕ) → fair_amount (report k 0 w) ≡ true → 0 < w
unfolding fair_amount fair_magnitude
positive k zero e = absurd (false≢true e)
positive k (suc w) e = omega arith

-- what the record of a report says, with its class and amount
abbrev of_report : ℕ → ℤ → Said
of_report k z = record { kind = 1; amount = z; class = k; reg = 0; value = 0 }

-- two's complement, whatever the bytes: a number of 65,536 or more is no amount
reported_says : (k x : ℕ) → fair_amount (reported k x) ≡ true → of_report k (twos x) ≡ said_of (reported k x)
unfolding twos reported
reported_says k x = go (ltb x 32768)
  where
    go : (b : Bool) → fair_amount (cond b (report k x 0) (report k 0 (65536 - x))) ≡ true
        → of_report k (cond b (pos x) (pos x -ℤ pos 65536)) ≡ said_of (cond b (report k x 0) (report k 0 (65536 - x)))
    go true e = ap (of_report k) (sym (+ℤ_idr (pos x)))
    go false e =
        let h = positive k (65536 - x) e in
        let q : x + (65536 - x) ≡ 65536 = omega arith in
        ap (of_report k) (subst (λ y. pos x -ℤ pos y ≡ pos 0 -ℤ pos (65536 - x)) q (minus_sum x (65536 - x)))

pub decoded_said : (v : ℕ) (s : List ℕ) (c : ℕ) (p : Payload) → decode v s ≡ Act (Send c p) → fair_amount p ≡ true → said v s ≡ said_of p
unfolding said amount_in class_in register_in value_in report_class
decoded_said v s c p e f = go (send_record v s c p e)
  where
    go : SendRecord v s p → said v s ≡ said_of p
    go (reports q r) = rw (q, r) (reported_says (report_class v s) (word s 3) (rw r at f))
    go (syncs q r) = rw (q, r)
    go (writes q r) = rw (q, r)

-- STEPS

-- an event that no question refuses, with the set that it applies, and with what its record says of a message sent
pub record Legal (t : Table) (s : Said) (e : Event) (ms : List Name) : Type 0 where
  pub asked : first_no (event_questions t e) ≡ 0
  pub set : ms ≡ names_of (messages_of t) (applied_by t e)
  pub says : (c : ℕ) (p : Payload) → e ≡ Send c p → s ≡ said_of p

pub record_legal : (t : Table) (s : List ℕ) (e : Event) → decode t.version s ≡ Act e → first_no (event_questions t e) ≡ 0
    → Legal t (said t.version s) e (names_of (messages_of t) (applied_by t e))
record_legal t s e d q = record { asked = q; set = refl; says = λ c p r. decoded_said t.version s c p (rw r at d) (send_allowed t c p (rw r at q)).amount }

event_recorded : {n : ℕ} {t : Table} {u : State} {l : Ledger} → Related n t u → Recorded t.n t l → (s : Said) (e : Event) (ms : List Name) → Legal t s e ms
    → Recorded t.n (next t e) (moved l (carried s e ms))
unfolding applied_by
event_recorded g k s (Send c y) ms a = send_recorded k c y a.asked s (a.says c y refl) ms
event_recorded g k s (Handover r o) ms a = rw a.set (handover_recorded g k r o a.asked s)
event_recorded g k s (Stop c i) ms a = stop_recorded k c i a.asked s ms

pub next_recorded : {n : ℕ} {t : Table} {u : State} {l : Ledger} → Related n t u → Recorded n t l → (s : Said) (e : Event) (ms : List Name) → Legal t s e ms
    → Recorded n (next t e) (moved l (carried s e ms))
next_recorded {t = t} {l = l} g k s e ms a =
    subst (λ m. Recorded m (next t e) (moved l (carried s e ms))) k.size
    (event_recorded g (subst (λ m. Recorded m t l) (sym k.size) k) s e ms a)

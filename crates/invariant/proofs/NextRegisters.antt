-- Lines 5 to 11 of Algorithm 3: of each register that an accepted event's set writes, the greatest stamp in it wins if it exceeds the one
-- held, on every well-formed table; no other register changes. Assumes nothing.
use mathlib.Core.Path.{◌≡◌, refl, sym, ap, ◌∙◌}
use mathlib.Core.Bool.{true, false}
use mathlib.Core.List.{List, []}
use Prim.Native.Nat.{ℕ, zero, suc, ◌<◌}
use native.Mathlib.Omega.{arith}
use lib.ListN.{get_or}
use borrow.Author.Tests.{eq-eqb, ne_eqb}
use Rattle.lists.proofs.Tests.{cond_true, cond_false}
use Rattle.lists.proofs.Build.{get_d_tabulate}
use Rattle.model.specs.Tables.{register_count, no_register, no_panel, at, flagged, applied, with_controller, with_message, with_stop, messages_of}
use Rattle.model.specs.Delivery.{has}
use Rattle.model.specs.Registers.{wins, newest, register_of, registers}
use Rattle.model.specs.Events.{sent_message, sent, deliver, subject, after, with_sent, next, applied_by, shown, panel_of}
use Rattle.model.specs.Sized.{Sized}
use Rattle.model.specs.WellFormed.{well_formed}
use Rattle.model.specs.Questions.{first_no, event_questions}
use Rattle.model.specs.Calls.{look}
use Rattle.model.specs.declared.Message.{Message}
use Rattle.model.specs.declared.Register.{Register}
use Rattle.model.specs.declared.Panel.{Panel}
use Rattle.model.specs.declared.Controller.{Controller}
use Rattle.model.specs.declared.Table.{Table}
use Rattle.model.specs.declared.Event.{Event}
use Rattle.model.specs.declared.Event.TheVariants.{Send, Handover, Stop}
use Rattle.model.specs.Facts.{Among, WellFormed}
use Rattle.model.proofs.Tested.{facts, tested}
use Rattle.model.proofs.Allowed.{look_passed, send_allowed, handover_allowed, subject_allowed}
use Rattle.model.proofs.Registers.{no_later, zero-first, newest-same, newest_last, newest_joined}
use Rattle.model.proofs.Handovers.{received_at, set_at}
use Rattle.invariant.specs.Claims.{in_set, rewritten, looked_at}
use Rattle.invariant.proofs.Stores.{seated, message_old}
use Rattle.invariant.proofs.Sizes.{next_case, next_n}
use Rattle.invariant.proofs.Counter.{receiver_applied}
use Rattle.invariant.proofs.Kept.{next_well_formed}

-- 0, 0 exceeds no stamp
none-wins : (y : Register) → wins no_register y ≡ y
unfolding wins
none-wins y = cond_false no_register y (no_later no_register.stamp y.stamp (zero-first y.stamp))

-- nothing is written by no set
none_written : (t : Table) (k r : ℕ) → newest k t.messages (has []) r ≡ no_register
unfolding newest
none_written t zero r = refl
none_written t (suc k) r = none_written t k r

nothing_wins : (t : Table) (A : List ℕ) (r : ℕ) → register_of (messages_of t) A r ≡ wins (in_set (messages_of t) [] r) (register_of (messages_of t) A r)
nothing_wins t A r = rw (none_written t t.count r) (sym (none-wins (register_of (messages_of t) A r)))

-- a replaced controller leaves the messages as they were
register_replaced : (t : Table) (c : ℕ) (x : Controller) (A : List ℕ) (r : ℕ) → register_of (messages_of (with_controller t c x)) A r ≡ register_of (messages_of t) A r
unfolding with_controller
register_replaced t c x A r = refl

-- a message more, which is not flagged
register_added : (t : Table) (m : Message) (A : List ℕ) (r : ℕ) → flagged A t.count ≡ false → register_of (messages_of (with_message t m)) A r ≡ register_of (messages_of t) A r
unfolding register_of with_message
register_added t m A r n =
    newest_last (with_message t m).messages (flagged A) r t.count n
    ∙ newest-same (with_message t m).messages t.messages r t.count (flagged A) (flagged A) (λ _ _. refl) (message_old t m)

-- the subject's register; what a send adds to the messages is nowhere applied
register_subject : (t : Table) (e : Event) → Sized t → WellFormed t → first_no (event_questions t e) ≡ 0 → (r : ℕ)
    → register_of (messages_of (next t e)) (after t e).applied r ≡ wins (in_set (messages_of t) (applied_by t e) r) (register_of (messages_of t) (at t (subject e)).applied r)
unfolding next subject after with_sent applied_by sent register_of
register_subject t (Send c p) z w q r =
    let a = send_allowed t c p q in
    let m = sent_message (messages_of t) (at t c) c p in
    register_replaced (with_message t m) c (sent t.count (at t c) c) (at t c).applied r
    ∙ register_added t m (at t c).applied r ((w.controllers c a.sender).outside t.count a.room (omega arith)).1
    ∙ nothing_wins t (at t c).applied r
register_subject t (Handover d o) z w q r =
    let a = handover_allowed t d o q in
    let x = deliver (messages_of t) (received_at t d o) (set_at t d o) in
    register_replaced t d x x.applied r
    ∙ newest_joined t w (has (set_at t d o)) (applied (at t d)) (applied x) r (receiver_applied t w z d o a)
register_subject t (Stop c k) z w q r = register_replaced t c (with_stop (at t c) k) (at t c).applied r ∙ nothing_wins t (at t c).applied r

register_other : (t : Table) (e : Event) → WellFormed t → first_no (event_questions t e) ≡ 0 → (c : ℕ) → Among t.n c → (r : ℕ)
    → register_of (messages_of (next t e)) (at t c).applied r ≡ register_of (messages_of t) (at t c).applied r
unfolding next with_sent subject
register_other t (Send d p) w q c h r =
    let a = send_allowed t d p q in
    let m = sent_message (messages_of t) (at t d) d p in
    register_replaced (with_message t m) d (after t (Send d p)) _ r ∙ register_added t m _ r ((w.controllers c h).outside t.count a.room (omega arith)).1
register_other t (Handover d o) w q c h r = register_replaced t d (after t (Handover d o)) _ r
register_other t (Stop d k) w q c h r = register_replaced t d (after t (Stop d k)) _ r

pub register_next : (t : Table) (e : Event) → Sized t → WellFormed t → first_no (event_questions t e) ≡ 0 → (c : ℕ) → Among t.n c → (r : ℕ)
    → register_of (messages_of (next t e)) (at (next t e) c).applied r ≡ rewritten t e c r (register_of (messages_of t) (at t c).applied r)
register_next t e z w q c h r =
    next_case t e z (seated w.few (subject_allowed t e q)) (λ x. register_of (messages_of (next t e)) x.applied r ≡ rewritten t e c r (register_of (messages_of t) (at t c).applied r)) c (seated w.few h)
    (λ p. rw (p, eq-eqb (subject e) (subject e) refl) (register_subject t e z w q r))
    (λ n. rw (ne_eqb c (subject e) n) (register_other t e w q c h r))

-- LOOKS

looked_register : (t : Table) (c : ℕ) → WellFormed t → Among t.n c → (i : ℕ) → i < register_count → looked_at t c i ≡ register_of (messages_of t) (at t c).applied (suc i)
unfolding look panel_of shown registers
looked_register t c w h i l =
    ap (λ (p : Panel). get_or p.registers i no_register) (cond_true (panel_of t c) no_panel (eq-eqb _ 0 (look_passed t c (tested t w) h)))
    ∙ get_d_tabulate register_count (λ i. register_of (messages_of t) (at t c).applied (suc i)) no_register i l

-- before an accepted event and after it
pub look-registers : (t : Table) (e : Event) → Sized t → well_formed t ≡ true → first_no (event_questions t e) ≡ 0 → (c : ℕ) → Among t.n c
    → (i : ℕ) → i < register_count → looked_at (next t e) c i ≡ rewritten t e c (suc i) (looked_at t c i)
look-registers t e z f q c h i l =
    let w = facts t f in
    looked_register (next t e) c (next_well_formed t e z w q) (rw (next_n t e) h) i l
    ∙ register_next t e z w q c h (suc i)
    ∙ ap (rewritten t e c (suc i)) (sym (looked_register t c w h i l))

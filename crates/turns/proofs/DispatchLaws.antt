-- The dispatcher beside the event call: what it serves is the handover's record, it says "none" exactly if question 13 refuses every
-- running receiver's, and where it serves no pair it changes nothing. Assumes nothing.
use mathlib.Core.Path.{◌≡◌, refl, sym, ap, subst, ◌∙◌}
use mathlib.Core.Logic.{◌≢◌}
use mathlib.Core.Bool.{true, false}
use mathlib.Core.List.{[]}
use Prim.Native.Nat.{ℕ, ◌≤◌}
use native.Mathlib.Omega.{arith}
use borrow.Author.Tests.{le-leb, eqb-true, not-true}
use Rattle.lists.proofs.Tests.{and_left, and_right, cond_true, refuted, contradiction}
use Rattle.model.specs.Tables.{scratch_size, yes?, at}
use Rattle.model.specs.Events.{next, resulting}
use Rattle.model.specs.Records.{size_of, after_record, decode}
use Rattle.model.specs.WellFormed.{well_formed}
use Rattle.model.specs.Questions.{first_no, unread, kind_questions, record_questions, handover_questions, event_questions, command_questions, scratch_room, step_questions}
use Rattle.model.specs.Calls.{Outcome, answering, accepted, refused, event, scratch_after}
use Rattle.turns.specs.Dispatcher.{some?, handover, waits, next_pair, says_none, DispatchOutcome, with_handover, with_none, dispatch, scratch_served}
use Rattle.model.specs.declared.Pair.{Pair}
use Rattle.model.specs.declared.Table.{Table}
use Rattle.model.specs.declared.Command.TheVariants.{Act}
use Rattle.model.proofs.Tested.{named_of}
use Rattle.model.proofs.Steps.{step-first_no, step_is_accepted, event_is_step}
use Rattle.turns.specs.Claims.{InRange, handover_record, IsRecord, AllRead, Unchanged}
use Rattle.turns.proofs.Dispatching.{found, none-waits, allowed_waits, dispatch_case, dispatch_some, none_said, says_none_lem}

-- THE RECORD OF A HANDOVER

module _ (t : Table) (q : Pair) (i : InRange t.n q) (room : ℕ) where
  abbrev asked : ℕ
  asked = first_no (step_questions t (handover_record q) room)

  -- of a pair that waits: no question refuses it, with enough scratch
  waiting_asked : waits t.controllers q ≡ true → scratch_size ≤ room → asked ≡ 0
  unfolding waits first_no step_questions record_questions kind_questions size_of decode command_questions event_questions handover_questions scratch_room
  waiting_asked w h =
      let x = yes? (at t q.receiver).running in
      rw (named_of t q.receiver i.receiver, named_of t q.owner i.owner, and_left x (unread _ _ _) w, and_right x _ w, le-leb scratch_size room h) refl

  -- of a running receiver's pair that does not wait: question 13 does
  resting_asked : yes? (at t q.receiver).running ≡ true → waits t.controllers q ≡ false → asked ≡ 13
  unfolding waits first_no step_questions record_questions kind_questions size_of decode command_questions event_questions handover_questions
  resting_asked r w = rw (named_of t q.receiver i.receiver, named_of t q.owner i.owner, r, unread_no) refl
    where
      unread_no : unread (at t q.receiver) (at t q.owner) q.owner ≡ false
      unread_no = rw r at w

  module _ (f : well_formed t ≡ true) where
    event_asked : (event t (handover_record q) room).answer.refusal ≡ asked
    event_asked = rw (event_is_step t (handover_record q) room f) (step-first_no t (handover_record q) room)

    waiting_event : waits t.controllers q ≡ true → scratch_size ≤ room
        → event t (handover_record q) room ≡ record { answer = answering t (Act (handover q)) []; table = next t (handover q) }
    unfolding accepted resulting after_record decode
    waiting_event w h = event_is_step t (handover_record q) room f ∙ step_is_accepted t (handover_record q) room (waiting_asked w h)

-- WHAT IS SERVED

pub dispatch_is_record : (t : Table) (p : Pair) (room : ℕ) → some? (dispatch t p room).answer.pair ≡ true → IsRecord t room (dispatch t p room)
unfolding with_handover answering scratch_after scratch_served
dispatch_is_record t p room e =
    let d = dispatch_some t p room e in
    let s = d.0 in
    let f = s.passed.formed in
    let r = waiting_event t _ s.range room f (allowed_waits t _ s.allowed).1 (s.passed.enough s.some) in
    rw d.1 (record {
      answer = ap (λ (o : Outcome). o.answer) r;
      table = ap (λ (o : Outcome). o.table) r;
      scratch = λ w. rw r (sym (cond_true {b = some? (next_pair t.n t.controllers p)} _ _ s.some));
    })

-- "NONE"

module _ (t : Table) (p : Pair) (room : ℕ) (f : well_formed t ≡ true) (i : InRange t.n p) where
  none_read : says_none (dispatch t p room).answer ≡ true → AllRead t
  none_read e q j r room' =
      event_asked t q j room' f ∙ resting_asked t q j room' r (none-waits t.n t.controllers p q i j (none_said t p room e).1)

  read_none : AllRead t → says_none (dispatch t p room).answer ≡ true
  unfolding waits
  read_none a = says_none_lem t p room (record { formed = f; named = i; enough = λ z. contradiction z none }) none
    where
      none : some? (next_pair t.n t.controllers p) ≡ false
      none = refuted _ (λ z.
          let w = found t.n t.controllers p i z in
          let k = a _ w.0 (and_left _ _ w.1) scratch_size in
          omega (arith, k, event_asked t _ w.0 scratch_size f, waiting_asked t _ w.0 scratch_size w.1 (omega arith)))

  pub none_exactly : (says_none (dispatch t p room).answer ≡ true → AllRead t) × (AllRead t → says_none (dispatch t p room).answer ≡ true)
  none_exactly = (none_read, read_none)

-- WHERE NO PAIR IS SERVED

unserved_unchanged : (t : Table) (k : ℕ) → Unchanged t k (with_none t k)
unfolding with_none refused scratch_served
unserved_unchanged t k = record { pair = refl; answer = refl; table = refl; scratch = λ w. refl }

module _ (t : Table) (p : Pair) (room : ℕ) where
  pub dispatch-refused : (dispatch t p room).answer.answer.refusal ≢ 0 → Unchanged t (dispatch t p room).answer.answer.refusal (dispatch t p room)
  unfolding with_handover with_none answering refused
  dispatch-refused =
      dispatch_case t p room (λ (o : DispatchOutcome). o.answer.answer.refusal ≢ 0 → Unchanged t o.answer.answer.refusal o)
      (λ _ n. absurd (n refl)) (λ _ _. unserved_unchanged t _)

  pub dispatch-none : says_none (dispatch t p room).answer ≡ true → Unchanged t 0 (dispatch t p room)
  unfolding with_handover with_none says_none refused answering
  dispatch-none =
      dispatch_case t p room (λ (o : DispatchOutcome). says_none o.answer ≡ true → Unchanged t 0 o)
      (λ s e. contradiction s.some (not-true _ e))
      (λ _ e. subst (λ k. Unchanged t 0 (with_none t k)) (sym (eqb-true _ 0 (and_left _ _ e))) (unserved_unchanged t 0))

-- The counter of Algorithm 4: an accepted event adds to its subject's sum of any weight that of the set applied, and no other
-- sum changes. Assumes nothing.
use mathlib.Core.Path.{◌≡◌, refl, ap, ◌∙◌}
use mathlib.Core.Bool.{true, false, ◌||◌, cond}
use mathlib.Core.List.{List, []}
use Prim.Native.Nat.{ℕ, zero, suc, ◌+◌, ◌<◌}
use native.Mathlib.Omega.{arith}
use lib.ListN.{get_or}
use lib.Dec.{eqb}
use borrow.Author.Tests.{eq-eqb, ne_eqb}
use Rattle.lists.specs.Below.{sum}
use Rattle.lists.proofs.Tests.{cond_apart, refuted}
use Rattle.lists.proofs.Below.{sum_ext, sum-plus, sum_last}
use Rattle.model.specs.Tables.{yes?, at, message, place, flagged, applied, with_controller, with_message, with_read, with_stop, messages_of}
use Rattle.model.specs.Delivery.{has}
use Rattle.model.specs.Events.{sent_message, sent, received, deliver, subject, after, with_sent, next, applied_by, weigh}
use Rattle.model.specs.Sized.{Sized}
use Rattle.model.specs.Questions.{first_no, event_questions}
use Rattle.model.specs.declared.Message.{Message}
use Rattle.model.specs.declared.Payload.{Payload}
use Rattle.model.specs.declared.Controller.{Controller}
use Rattle.model.specs.declared.Table.{Table}
use Rattle.model.specs.declared.Event.{Event}
use Rattle.model.specs.declared.Event.TheVariants.{Send, Handover, Stop}
use Rattle.model.specs.Facts.{Among, WellFormed}
use Rattle.model.proofs.Allowed.{HandoverAllowed, send_allowed, handover_allowed, subject_allowed}
use Rattle.model.proofs.Handovers.{next_at, received_at, set_at}
use Rattle.invariant.specs.Claims.{weigh_set}
use Rattle.invariant.proofs.Stores.{seated, message_old, forward_case}
use Rattle.invariant.proofs.Sizes.{next_case}
use Rattle.invariant.proofs.Delivering.{delivered_applied}
use Rattle.invariant.proofs.Receiving.{received_good, applied-held}

none_weighs : (v : Payload → ℕ) (t : Table) → weigh_set v (messages_of t) [] ≡ 0
unfolding weigh_set sum
none_weighs v t = go t.count
  where
    go : (k : ℕ) → sum k (λ s. 0) ≡ 0
    go zero = refl
    go (suc k) = omega (arith, go k)

-- a replaced controller leaves the messages as they were
weigh_replaced : (v : Payload → ℕ) (t : Table) (c : ℕ) (x : Controller) (A : List ℕ) → weigh v (messages_of (with_controller t c x)) A ≡ weigh v (messages_of t) A
unfolding weigh with_controller
weigh_replaced v t c x A = refl

-- a message more, which is not flagged
weigh_added : (v : Payload → ℕ) (t : Table) (m : Message) (A : List ℕ) → flagged A t.count ≡ false → weigh v (messages_of (with_message t m)) A ≡ weigh v (messages_of t) A
unfolding weigh with_message
weigh_added v t m A n =
    sum_last t.count _ (rw n)
    ∙ sum_ext t.count _ _ (λ s h. ap (λ (y : Message). cond (flagged A s) (v y.payload) 0) (message_old t m s h))

-- THE RECEIVER

-- nothing is applied by reading
pub received-applied : (t : Table) (r o : ℕ) → (received_at t r o).applied ≡ (at t r).applied
unfolding received
received-applied t r o =
    forward_case (λ (x : Controller). x.applied ≡ (at t r).applied) (with_read (at t r) o) (message t (next_at t r o)) (next_at t r o) o (place (at t r) o + 1)
    (λ _. refl) (λ _ _. refl) (λ _ _. refl)

module _ (t : Table) (w : WellFormed t) (z : Sized t) (r o : ℕ) (a : HandoverAllowed t r o) where
  -- nothing is applied twice
  pub applied_new : (s : ℕ) → s < t.count → has (set_at t r o) s ≡ true → applied (at t r) s ≡ false
  applied_new s h e = refuted (applied (at t r) s) (λ p.
      (received_good t w z r o a).apart s h (applied-held t w z r o a s (omega (arith, w.fitting)) e) (rw (received-applied t r o) p))

  pub receiver_applied : (s : ℕ) → s < t.count
      → applied (deliver (messages_of t) (received_at t r o) (set_at t r o)) s ≡ (has (set_at t r o) s || applied (at t r) s)
  receiver_applied s h =
      delivered_applied t (received_at t r o) (set_at t r o) s (omega (arith, w.fitting))
      ∙ ap (λ (l : List ℕ). has (set_at t r o) s || yes? (get_or l s 0)) (received-applied t r o)

  weigh_receiver : (v : Payload → ℕ) → weigh v (messages_of t) (deliver (messages_of t) (received_at t r o) (set_at t r o)).applied ≡ weigh v (messages_of t) (at t r).applied + weigh_set v (messages_of t) (set_at t r o)
  unfolding weigh weigh_set
  weigh_receiver v =
      sum_ext t.count _ _ (λ s h. rw (receiver_applied s h) (omega (arith, cond_apart (has (set_at t r o) s) (applied (at t r) s) (v (message t s).payload) (applied_new s h))))
      ∙ sum-plus t.count _ _

-- EVERY CONTROLLER

-- the subject's sum; what a send adds to the messages is nowhere applied
weigh-subject : (t : Table) (e : Event) → Sized t → WellFormed t → first_no (event_questions t e) ≡ 0 → (v : Payload → ℕ)
    → weigh v (messages_of (next t e)) (after t e).applied ≡ weigh v (messages_of t) (at t (subject e)).applied + weigh_set v (messages_of t) (applied_by t e)
unfolding next subject after with_sent applied_by sent
weigh-subject t (Send c p) z w q v =
    let a = send_allowed t c p q in
    let unsent = ((w.controllers c a.sender).outside t.count a.room (omega arith)).1 in
    let m = sent_message (messages_of t) (at t c) c p in
    omega (
      arith,
      weigh_replaced v (with_message t m) c (sent t.count (at t c) c) (at t c).applied,
      weigh_added v t m (at t c).applied unsent,
      none_weighs v t,
    )
weigh-subject t (Handover r o) z w q v = weigh_replaced v t r (after t (Handover r o)) _ ∙ weigh_receiver t w z r o (handover_allowed t r o q) v
weigh-subject t (Stop c k) z w q v = omega (arith, weigh_replaced v t c (with_stop (at t c) k) (at t c).applied, none_weighs v t)

weigh_other : (t : Table) (e : Event) → WellFormed t → first_no (event_questions t e) ≡ 0 → (v : Payload → ℕ) (c : ℕ) → Among t.n c
    → weigh v (messages_of (next t e)) (at t c).applied ≡ weigh v (messages_of t) (at t c).applied
unfolding next with_sent subject
weigh_other t (Send d p) w q v c h =
    let a = send_allowed t d p q in
    let m = sent_message (messages_of t) (at t d) d p in
    weigh_replaced v (with_message t m) d (after t (Send d p)) _ ∙ weigh_added v t m _ ((w.controllers c h).outside t.count a.room (omega arith)).1
weigh_other t (Handover r o) w q v c h = weigh_replaced v t r (after t (Handover r o)) _
weigh_other t (Stop d k) w q v c h = weigh_replaced v t d (after t (Stop d k)) _

pub weigh-next : (t : Table) (e : Event) → Sized t → WellFormed t → first_no (event_questions t e) ≡ 0 → (v : Payload → ℕ) (c : ℕ) → Among t.n c
    → weigh v (messages_of (next t e)) (at (next t e) c).applied ≡ weigh v (messages_of t) (at t c).applied + cond (eqb c (subject e)) (weigh_set v (messages_of t) (applied_by t e)) 0
weigh-next t e z w q v c h =
    next_case t e z (seated w.few (subject_allowed t e q))
    (λ x. weigh v (messages_of (next t e)) x.applied ≡ weigh v (messages_of t) (at t c).applied + cond (eqb c (subject e)) (weigh_set v (messages_of t) (applied_by t e)) 0) c (seated w.few h)
    (λ p. rw (p, eq-eqb (subject e) (subject e) refl) (weigh-subject t e z w q v))
    (λ n. rw (ne_eqb c (subject e) n) (omega (arith, weigh_other t e w q v c h)))

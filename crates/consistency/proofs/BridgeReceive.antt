-- An allowed handover reads as the abstract system does: the receiver's part of the table, after it has read and before it applies,
-- is shown by the state that has received the message. Assumes nothing.
use mathlib.Core.Path.{◌≡◌, refl, sym, ◌∙◌}
use mathlib.Core.Bool.{true, false}
use mathlib.Core.Logic.{◌≢◌}
use mathlib.Core.List.{List}
use Prim.Native.Nat.{ℕ, suc, ◌+◌, ◌<◌}
use native.Mathlib.Omega.{arith}
use native.Mathlib.Decide.{ℕ_discrete}
use lib.ListN.{length, get_or}
use lib.Dec.{leb}
use Rattle.lists.proofs.Tests.{contradiction}
use Rattle.model.specs.Tables.{seats, capacity, yes?, at, message, slot_at, place, entry, held, applied, highest, unheld, forward_number, with_entry, with_read, with_mark}
use Rattle.model.specs.Events.{next_slot, received}
use Rattle.model.specs.Sized.{SizedController}
use Rattle.model.specs.Facts.{in_log, GoodController}
use Rattle.model.specs.declared.ForwardNumber.{ForwardNumber}
use Rattle.model.specs.declared.Controller.{Controller}
use Rattle.model.specs.declared.Table.{Table}
use Rattle.model.proofs.Allowed.{HandoverAllowed}
use Rattle.model.proofs.Handovers.{next_at, received_at}
use Rattle.invariant.proofs.Stores.{seated, at_sized, read_place, read_place_other, forward_case}
use Rattle.invariant.proofs.Logs.{log_shorter}
use Rattle.invariant.proofs.Buffering.{unheld-absent}
use Rattle.invariant.proofs.Receiving.{above_unapplied, next_slot_run}
use Rattle.broadcast.specs.State.{State, append, fifo_deliver, forward, receive}
use Rattle.broadcast.specs.Events.{MayRead}
use Rattle.broadcast.proofs.Updates.{read_case}
use Rattle.broadcast.proofs.Invariant.{Invariant}
use Rattle.broadcast.proofs.Legal.{forward_case as abstract-forward-case, receive_delivered}
use Rattle.broadcast.proofs.Stored.{Stored, passed_stored, marked_stored}
use Rattle.consistency.proofs.Bridge.{top, system, code_at, marks_of, AbsentMarks, Shows, Related}
use Rattle.consistency.proofs.PassedOver.{passed_applied}
use Rattle.consistency.proofs.BridgeMarks.{Marked, marked}
use Rattle.consistency.proofs.BridgeKept.{append_readable, append_log}
use Rattle.consistency.proofs.BridgeFacts.{few, lacking, codes_differ, logged_position, position_logged, length_is}

module _ {n : ℕ} {t : Table} {s : State} (g : Related n t s) (r o : ℕ) (a : HandoverAllowed t (suc r) (suc o)) where
  pub reader : r < n
  reader = omega (arith, a.receiver, g.size)

  owner : o < n
  owner = omega (arith, a.owner, g.size)

  abbrev c : Controller
  c = at t (suc r)

  -- the slot read, and the code of its message
  abbrev j : ℕ
  j = next_at t (suc r) (suc o)

  abbrev m : ℕ
  m = code_at t j

  abbrev v : Invariant (system n) s
  v = g.all.invariant

  h : Shows n t s r c
  h = g.controllers r reader

  good : GoodController t (suc r) c
  good = g.formed.controllers (suc r) a.receiver

  size : SizedController c
  size = at_sized t (suc r) g.sized (seated g.formed.few a.receiver)

  run : j < t.count
  run = next_slot_run t g.formed (suc r) (suc o) a

  place_is : s.read r o ≡ place c (suc o)
  place_is = h.places o owner

  log_length : s.length r ≡ c.length
  log_length = length_is n t g.formed s v r (suc r) c good h a.running

  pub may_read : MayRead (system n) s r o m
  unfolding next_slot
  may_read = record {
    process = omega (arith, few g, reader);
    running = h.running ∙ a.running;
    next = (g.controllers o owner).log (place c (suc o)) a.unread ∙ sym place_is;
    unread = omega (arith, a.unread, place_is, (g.controllers o owner).length);
    room = λ _. omega (arith, log_length, good.log_room);
  }

  -- what is passed over was delivered
  passed_delivered : leb (message t j).number.0 (highest c (message t j).sender) ≡ true → s.delivered r m ≡ true
  passed_delivered e = h.applied_is j run ∙ passed_applied g (suc r) (suc o) a e

  unapplied : leb (message t j).number.0 (highest c (message t j).sender) ≡ false → applied c j ≡ false
  unapplied = above_unapplied t g.formed (suc r) c good j run

  held_logged : held c j ≡ true → s.position r m < top
  held_logged e = omega (arith, logged_position n t g.formed s v r (suc r) c good h j (good.exact a.running j run ∙ rw e refl), good.log_room)

  lacked : leb (message t j).number.0 (highest c (message t j).sender) ≡ false → held c j ≡ false → in_log c j ≡ false
  lacked e d = good.exact a.running j run ∙ rw (d, unapplied e) refl

  lacked_position : in_log c j ≡ false → s.position r m ≡ top
  lacked_position e = lacking g r m (λ p.
      contradiction (position_logged n t g.formed s v r (suc r) c good h j run (omega (arith, v.logs.position_length r m p, log_length))) e)

  -- THE STATE THAT HAS RECEIVED

  abbrev S : State
  S = receive (system n) s r o m

  forward-known : s.position r m < top → forward (system n) s r m ≡ s
  forward-known p = abstract-forward-case (system n) (λ u. u ≡ s) s r m (λ _. refl) (λ q. absurd (omega arith))

  forward_new : s.position r m ≡ top → forward (system n) s r m ≡ append s r m
  forward_new p = abstract-forward-case (system n) (λ u. u ≡ append s r m) s r m (λ q. absurd (omega arith)) (λ _. refl)

  forward-same : ((forward (system n) s r m).read ≡ s.read) × ((forward (system n) s r m).running ≡ s.running)
  unfolding append
  forward-same = abstract-forward-case (system n) (λ u. (u.read ≡ s.read) × (u.running ≡ s.running)) s r m (λ _. (refl, refl)) (λ _. (refl, refl))

  read_places : (q : ℕ) → q < n → S.read r q ≡ place (with_read c (suc o)) (suc q)
  read_places q l =
      read_case (forward (system n) s r m) r o (λ p. p ≡ place (with_read c (suc o)) (suc q)) r q
      (λ _ e. rw (e, read_place c (suc o) size (omega (arith, few g, owner)), forward-same.0) (omega (arith, place_is)))
      (λ d. rw (read_place_other c (suc o) (suc q) (omega (arith, few g, owner)) (omega (arith, few g)) (λ e. d refl (omega arith)), forward-same.0) (h.places q l))

  -- what of the receiver no kind of reading changes
  receiver_shows : (x : Controller) → x.read ≡ (with_read c (suc o)).read → x.running ≡ c.running → x.applied ≡ c.applied
      → S.readable r ≡ x.length → ((p : ℕ) → p < x.length → S.position r (code_at t (slot_at x p)) ≡ p)
      → Stored (system n) t.count (code_at t) (marks_of x) S r
      → AbsentMarks x
      → Shows n t S r x
  unfolding fifo_deliver
  receiver_shows x read running applied' length log marks absent_marks = record {
    length = length;
    places = λ q l. rw read (read_places q l);
    running = rw (forward-same.1, running) h.running;
    log = log;
    applied_is = λ i l. rw (receive_delivered (system n) s r o m, applied') (h.applied_is i l);
    marks = marks;
    absent_marks = absent_marks;
  }

  -- PASSED OVER

  passed_shows : leb (message t j).number.0 (highest c (message t j).sender) ≡ true → Shows n t S r (with_read c (suc o))
  unfolding fifo_deliver
  passed_shows e =
      let d = passed_delivered e in
      let q = forward-known (v.logged r m d) in
      receiver_shows (with_read c (suc o)) refl refl refl (rw q h.length) (λ p l. rw q (h.log p l))
      (passed_stored (system n) s g.all r o m may_read t.count (code_at t) (marks_of c) d h.marks) h.absent_marks

  -- MARKED, and perhaps forwarded

  abbrev k : ℕ
  k = place c (suc o) + 1

  slot_room : j < capacity
  slot_room = omega (arith, run, g.formed.fitting)

  -- The marks stored were those given, but for the owner's.
  module _ (ms : List ForwardNumber) (sized : length ms ≡ seats) (same : (f : ℕ) → f < seats → f ≢ o → (get_or ms f (forward_number 0)).0 ≡ marks_of c j f) where
    abbrev x : Controller
    x = with_mark c j ms (suc o) k

    w : Marked c x j ms o k
    w = marked c size j slot_room ms sized o k (omega (arith, few g, owner))

    cell_same : (i f : ℕ) → f < seats → (i ≡ j → f ≡ o → ⊥) → marks_of x i f ≡ marks_of c i f
    cell_same i f l d = go (ℕ_discrete i j)
      where
        go : Dec (i ≡ j) → marks_of x i f ≡ marks_of c i f
        go (yes e) = rw e (w.given f (d e) ∙ same f l (d e))
        go (no e) = w.other i f e

    marked_marks : Stored (system n) t.count (code_at t) (marks_of x) S r
    marked_marks =
        marked_stored (system n) s g.all r o m may_read t.count (code_at t) (marks_of c) j (marks_of x) refl (λ i l e. codes_differ t g.formed i j l run e)
        (w.new ∙ omega (arith, place_is)) (λ i f l b d. cell_same i f (omega arith) d) h.marks

  marked_shows : held c j ≡ true → Shows n t S r (with_mark (with_read c (suc o)) j (entry c.pending j).marks (suc o) k)
  unfolding fifo_deliver
  marked_shows e =
      let q = forward-known (held_logged e) in
      let ms = (entry c.pending j).marks in
      let l = size.marks j slot_room in
      receiver_shows (with_mark (with_read c (suc o)) j ms (suc o) k) refl refl refl (rw q h.length) (λ p b. rw q (h.log p b))
      (marked_marks ms l (λ f _ _. refl)) ((w ms l (λ f _ _. refl)).absent_marks h.absent_marks)

  -- its log lacked it
  entered_shows : in_log c j ≡ false → held c j ≡ false → Shows n t S r (with_mark (with_entry (with_read c (suc o)) j) j unheld.marks (suc o) k)
  unfolding fifo_deliver
  entered_shows e d =
      receiver_shows (with_mark (with_entry (with_read c (suc o)) j) j unheld.marks (suc o) k) refl refl refl
      (rw q (append_readable n s r m new ∙ omega (arith, h.length)))
      (λ p l. rw q (append_log n s r m new c size room log_length (code_at t) j refl h.log p l))
      (marked_marks unheld.marks refl same) ((w unheld.marks refl same).absent_marks h.absent_marks)
    where
      new : s.position r m ≡ top
      new = lacked_position e

      q : forward (system n) s r m ≡ append s r m
      q = forward_new new

      room : c.length < capacity
      room = omega (arith, log_shorter t (suc r) c good j run e, g.formed.fitting)

      same : (f : ℕ) → f < seats → f ≢ o → (get_or unheld.marks f (forward_number 0)).0 ≡ marks_of c j f
      same f l _ = unheld-absent f l ∙ sym (h.absent_marks j f slot_room l d)

  pub received_shows : Shows n t S r (received_at t (suc r) (suc o))
  unfolding received
  received_shows =
      forward_case (Shows n t S r) (with_read c (suc o)) (message t j) j (suc o) k
      passed_shows (λ _ e. marked_shows e) (λ b e. entered_shows (lacked b e) e)

  pub received_running : yes? (received_at t (suc r) (suc o)).running ≡ true
  unfolding received
  received_running =
      forward_case (λ (y : Controller). yes? y.running ≡ true) (with_read c (suc o)) (message t j) j (suc o) k (λ _. a.running) (λ _ _. a.running) (λ _ _. a.running)

-- An allowed handover keeps a well-formed table well formed: the receiver reads an entry, passes it over, marks or forwards
-- it, and applies a set of what it has buffered. Assumes nothing.
use mathlib.Core.Path.{◌≡◌, refl, ◌∙◌}
use mathlib.Core.Bool.{true, false, ◌||◌, cond}
use Prim.Native.Nat.{ℕ, ◌+◌, ◌≤◌, ◌<◌}
use native.Mathlib.Omega.{arith}
use native.Mathlib.Decide.{dec_lt, ℕ_discrete}
use lib.ListN.{length, get_or-eq_default}
use lib.Dec.{leb}
use borrow.Author.Tests.{leb-false, eq-eqb}
use Rattle.lists.proofs.Tests.{refuted, contradiction}
use Rattle.lists.proofs.Below.{greatest_ge}
use Rattle.model.specs.Tables.{capacity, yes?, at, message, place, entry, held, applied, highest, unheld, with_entry, with_read, with_controller, messages_of}
use Rattle.model.specs.Delivery.{has}
use Rattle.model.specs.Events.{number_of, forward, next_slot, received, handover_set, deliver}
use Rattle.model.specs.Sized.{Sized, SizedController}
use Rattle.model.specs.Facts.{in_log, greatest_applied, Among, GoodController, WellFormed}
use Rattle.model.specs.declared.Message.{Message}
use Rattle.model.specs.declared.Controller.{Controller}
use Rattle.model.specs.declared.Table.{Table}
use Rattle.model.proofs.Allowed.{HandoverAllowed}
use Rattle.model.proofs.Largest.{applicable-largest, applicable-held}
use Rattle.model.proofs.Handovers.{next_at, received_at, set_at}
use Rattle.invariant.proofs.Stores.{seated, at_sized, read_place, read_place_other, marked_known, forward_case}
use Rattle.invariant.proofs.Sizes.{read_sized, entered_sized}
use Rattle.invariant.proofs.Buffering.{unheld_marks, marked_good, entered_good}
use Rattle.invariant.proofs.Delivering.{delivered_known, delivered_good}
use Rattle.invariant.proofs.Replacing.{but_one, replaced}

-- no applied number is above the highest
applied_number : (t : Table) (i : ℕ) (c : Controller) → GoodController t i c
    → (s : ℕ) → s < t.count → Among t.n (message t s).sender → applied c s ≡ true → (message t s).number.0 ≤ highest c (message t s).sender
unfolding greatest_applied number_of
applied_number t i c g s h n e =
    rw (g.highest_is (message t s).sender n)
    (rw (e, eq-eqb (message t s).sender (message t s).sender refl) at
    (greatest_ge t.count (λ r. cond (applied c r) (number_of (message t s).sender (message t r)) 0) s h))

-- a number above the highest was not applied
pub above_unapplied : (t : Table) (w : WellFormed t) (i : ℕ) (c : Controller) → GoodController t i c
    → (s : ℕ) → s < t.count → leb (message t s).number.0 (highest c (message t s).sender) ≡ false → applied c s ≡ false
above_unapplied t w i c g s h above = refuted (applied c s) (λ p.
    omega (arith, applied_number t i c g s h (w.senders s h) p, leb-false (message t s).number.0 (highest c (message t s).sender) above))

-- the entry that a handover reads is of a message of the run
pub next_slot_run : (t : Table) (w : WellFormed t) (r o : ℕ) → HandoverAllowed t r o → next_at t r o < t.count
unfolding next_slot
next_slot_run t w r o a = (w.controllers o a.owner).log_run (place (at t r) o) a.unread

-- entry s of a log, at place k
forward_good : (t : Table) (w : WellFormed t) (i : ℕ) (c : Controller) → GoodController t i c → SizedController c → yes? c.running ≡ true
    → (s : ℕ) → s < t.count → (o k : ℕ) → 0 < k → k ≤ 64 → GoodController t i (forward c (message t s) s o k)
forward_good t w i c g z running s run o k low high =
    forward_case (GoodController t i) c (message t s) s o k (λ _. g)
    (λ above e. marked_good t i c g z w.few w.fitting s run (unapplied above) (entry c.pending s).marks (z.marks s (omega (arith, w.fitting)))
    (λ f hf. g.marks s f run e hf) o k low high e)
    (λ above e. entered_good t i c g z w.few w.fitting s run (unapplied above) unheld.marks refl (unheld_marks w.few) o k low high
    (g.exact running s run ∙ rw (e, unapplied above) refl))
  where
    unapplied : leb (message t s).number.0 (highest c (message t s).sender) ≡ false → applied c s ≡ false
    unapplied = above_unapplied t w i c g s run

-- what was buffered or applied still is
forward-known : (c : Controller) (m : Message) (s o k : ℕ) → SizedController c → s < capacity
    → (r : ℕ) → (held c r || applied c r) ≡ true → (held (forward c m s o k) r || applied (forward c m s o k) r) ≡ true
forward-known c m s o k z h r e =
    forward_case (λ x. (held x r || applied x r) ≡ true) c m s o k (λ _. e)
    (λ _ _. marked_known c s (entry c.pending s).marks o k z h r e)
    (λ _ _. marked_known (with_entry c s) s unheld.marks o k (entered_sized c s z) h r e)

-- a receiver's log only grows
pub received_longer : (t : Table) (r o : ℕ) → (at t r).length ≤ (received_at t r o).length
unfolding received
received_longer t r o =
    forward_case (λ (x : Controller). (at t r).length ≤ x.length) (with_read (at t r) o) (message t (next_at t r o)) (next_at t r o) o (place (at t r) o + 1)
    (λ _. omega arith) (λ _ _. omega arith) (λ _ _. omega arith)

module _ (t : Table) (w : WellFormed t) (z : Sized t) (r o : ℕ) (a : HandoverAllowed t r o) where
  receiver_sized : SizedController (at t r)
  receiver_sized = at_sized t r z (seated w.few a.receiver)

  read_good : GoodController t r (with_read (at t r) o)
  unfolding in_log greatest_applied
  read_good =
      let g = w.controllers r a.receiver in
      record {
        log_room = g.log_room;
        log_run = g.log_run;
        log_once = g.log_once;
        places = λ q h. places q h (ℕ_discrete q o);
        marks = g.marks;
        apart = g.apart;
        outside = g.outside;
        highest_is = g.highest_is;
        exact = g.exact;
        long = g.long;
      }
    where
      places : (q : ℕ) → Among t.n q → Dec (q ≡ o) → place (with_read (at t r) o) q ≤ (at t q).length
      places q h (yes e) = rw (e, read_place (at t r) o receiver_sized (seated w.few a.owner)) (omega (arith, a.unread))
      places q h (no e) = rw (read_place_other (at t r) o q (seated w.few a.owner) (seated w.few h) e) ((w.controllers r a.receiver).places q h)

  pub received_good : GoodController t r (received_at t r o)
  unfolding received
  received_good =
      forward_good t w r (with_read (at t r) o) read_good (read_sized (at t r) o receiver_sized) a.running
      (next_at t r o) (next_slot_run t w r o a) o (place (at t r) o + 1) (omega arith) (omega (arith, a.unread, (w.controllers o a.owner).log_room))

  -- the set applied was buffered
  pub applied-held : (s : ℕ) → s < capacity → has (set_at t r o) s ≡ true → held (received_at t r o) s ≡ true
  unfolding handover_set
  applied-held s h e = applicable-held t.n (received_at t r o).pending s h e

  -- and is of messages of the run
  pub set_of_run : (s : ℕ) → has (set_at t r o) s ≡ true → s < t.count
  set_of_run s m = of_run (dec_lt s t.count) (dec_lt s capacity)
    where
      size : length (set_at t r o) ≡ capacity
      size = unfold handover_set in (applicable-largest t.n (received_at t r o).pending).size

      of_run : Dec (s < t.count) → Dec (s < capacity) → s < t.count
      of_run (yes h) d = h
      of_run (no h) (yes l) = contradiction (applied-held s l m) (received_good.outside s l (omega arith)).0
      of_run (no h) (no l) = contradiction m (get_or-eq_default (set_at t r o) false (omega (arith, size)))

  pub receiver_good : GoodController t r (deliver (messages_of t) (received_at t r o) (set_at t r o))
  receiver_good = delivered_good t r (received_at t r o) received_good w.few w.fitting (set_at t r o) applied-held

  receiver_known : (s : ℕ) → s < t.count → (held (at t r) s || applied (at t r) s) ≡ true
      → (held (deliver (messages_of t) (received_at t r o) (set_at t r o)) s || applied (deliver (messages_of t) (received_at t r o) (set_at t r o)) s) ≡ true
  unfolding received
  receiver_known s h e =
      delivered_known t (received_at t r o) (set_at t r o) s (omega (arith, w.fitting))
      (forward-known (with_read (at t r) o) (message t (next_at t r o)) (next_at t r o) o (place (at t r) o + 1) (read_sized (at t r) o receiver_sized)
      (omega (arith, w.fitting, next_slot_run t w r o a)) s e)

  pub handover_well_formed : WellFormed (with_controller t r (deliver (messages_of t) (received_at t r o) (set_at t r o)))
  unfolding deliver
  handover_well_formed =
      replaced t r (deliver (messages_of t) (received_at t r o) (set_at t r o)) z (but_one t r w) a.receiver receiver_good
      (omega (arith, receiver_good.places r a.receiver, received_longer t r o))
      (λ q h _. omega (arith, (w.controllers q h).places r a.receiver, received_longer t r o))
      (λ s h k e _. receiver_known s h (rw e at (w.kept s h k) a.running))

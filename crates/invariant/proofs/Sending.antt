-- An allowed report, sync or write keeps a well-formed table well formed. Assumes nothing.
use mathlib.Core.Path.{◌≡◌, refl, sym, ap, ◌∙◌}
use mathlib.Core.Bool.{Bool, true, false, ◌&&◌, ◌||◌, cond}
use mathlib.Core.Logic.{◌⊎◌, inl, inr, ◌≢◌}
use Prim.Native.Nat.{ℕ, ◌+◌, ◌≤◌, ◌<◌}
use native.Mathlib.Omega.{arith}
use native.Mathlib.Decide.{ℕ_discrete}
use lib.Dec.{eqb, leb, ltb}
use borrow.Author.Tests.{leb-true, eq-eqb, lt-ltb, le-leb}
use Rattle.lists.proofs.Tests.{and_left, and_right, both, or_cases, or_left, contradiction}
use Rattle.lists.proofs.Below.{greatest_ext, greatest_last}
use Rattle.model.specs.Tables.{capacity, yes?, at, message, held, applied, unheld, with_controller, with_message, with_entry, controller_in, messages_of}
use Rattle.model.specs.Registers.{writes, register_of, date_of}
use Rattle.model.specs.Events.{number_of, sent_message, sent}
use Rattle.model.specs.Sized.{Sized, SizedController}
use Rattle.model.specs.Facts.{in_log, greatest_applied, Among, GoodController, WellFormed}
use Rattle.model.specs.Fair.{fair_amount, fair_class, fair_register, fair_date}
use Rattle.model.specs.declared.Message.{Message}
use Rattle.model.specs.declared.Payload.{Payload}
use Rattle.model.specs.declared.Controller.{Controller}
use Rattle.model.specs.declared.Table.{Table}
use Rattle.model.proofs.Allowed.{SendAllowed}
use Rattle.model.proofs.Registers.{newest-held, newest_most, held_date, message_date}
use Rattle.invariant.proofs.Stores.{seated, at_sized, message_new, message_old, marked_held, marked_known}
use Rattle.invariant.proofs.Logs.{log_lacks, log_within}
use Rattle.invariant.proofs.Sizes.{message_sized, entered_sized}
use Rattle.invariant.proofs.Buffering.{unheld_marks, entered_good}
use Rattle.invariant.proofs.Replacing.{WellFormedBut, Knows, replaced}

-- ONE MESSAGE MORE

module _ (t : Table) (m : Message) where
  -- a message of the longer run
  pub data Added (s : ℕ) : Type 0 where
    new : s ≡ t.count → message (with_message t m) s ≡ m → Added s
    old : s < t.count → message (with_message t m) s ≡ message t s → Added s

  pub added : Sized t → t.count < capacity → (s : ℕ) → s < t.count + 1 → Added s
  added z room s h = go (ℕ_discrete s t.count)
    where
      go : Dec (s ≡ t.count) → Added s
      go (yes e) = new e (rw e (message_new t m z room))
      go (no e) = old (omega (arith, e)) (message_old t m s (omega (arith, e)))

  -- a property that the new message has and the old ones have
  pub added_each : (P : Message → Type 0) → Sized t → t.count < capacity → P m → ((s : ℕ) → s < t.count → P (message t s))
      → (s : ℕ) → s < t.count + 1 → P (message (with_message t m) s)
  added_each P z room n o s h = go (added z room s h)
    where
      go : Added s → P (message (with_message t m) s)
      go (new p e) = rw e n
      go (old p e) = rw e (o s p)

  module _ (z : Sized t) (room : t.count < capacity) (i : ℕ) (c : Controller) (g : GoodController t i c) where
    outside : (held c t.count ≡ false) × (applied c t.count ≡ false)
    outside = g.outside t.count room (omega arith)

    held_run : (s : ℕ) → s < t.count + 1 → held c s ≡ true → s < t.count
    held_run s h e = go (ℕ_discrete s t.count)
      where
        go : Dec (s ≡ t.count) → s < t.count
        go (yes p) = contradiction (rw p at e) outside.0
        go (no p) = omega (arith, p)

    added_greatest : (x : ℕ) → greatest_applied (messages_of (with_message t m)) c.applied x ≡ greatest_applied (messages_of t) c.applied x
    unfolding greatest_applied with_message
    added_greatest x =
        greatest_last t.count _ (rw outside.1)
        ∙ greatest_ext t.count _ _ (λ s h. ap (λ y. cond (applied c s) (number_of x y) 0) (message_old t m s h))

    -- a controller that did not send it stays good
    pub added_good : i ≢ m.sender → GoodController (with_message t m) i c
    unfolding with_message controller_in
    added_good d = record {
      log_room = g.log_room;
      log_run = λ k h. omega (arith, g.log_run k h);
      log_once = g.log_once;
      places = g.places;
      marks = λ s f h e. g.marks s f (held_run s h e) e;
      apart = λ s h e. g.apart s (held_run s h e) e;
      outside = λ s h l. g.outside s h (omega arith);
      highest_is = λ x h. g.highest_is x h ∙ sym (added_greatest x);
      exact = λ r s h. exact r s (added z room s h);
      long = λ r s h. long r s (added z room s h);
    }
      where
        exact : yes? c.running ≡ true → (s : ℕ) → Added s → in_log c s ≡ (held c s || applied c s)
        exact r s (new p e) = rw (p, outside.0, outside.1) (log_lacks t i c g t.count (omega arith))
        exact r s (old p e) = g.exact r s p

        long : yes? c.running ≡ true → (s : ℕ) → Added s → (message (with_message t m) s).sender ≡ i → (message (with_message t m) s).number.0 ≤ c.length
        long r s (new p e) q = absurd (d (sym q ∙ ap (λ (x : Message). x.sender) e))
        long r s (old p e) q = rw e (g.long r s p (sym (ap (λ (x : Message). x.sender) e) ∙ q))

-- a date that is fair stays so with more messages
later_fair : (t u : Table) (m : Message) → t.count ≤ u.count → fair_date t.count m ≡ true → fair_date u.count m ≡ true
unfolding fair_date
later_fair t u m l = go (eqb m.payload.kind 6)
  where
    go : (b : Bool) → cond b (ltb 0 m.date && leb m.date t.count) (eqb m.date 0) ≡ true → cond b (ltb 0 m.date && leb m.date u.count) (eqb m.date 0) ≡ true
    go true e = both (and_left (ltb 0 m.date) _ e) (le-leb m.date u.count (omega (arith, leb-true m.date t.count (and_right (ltb 0 m.date) _ e))))
    go false e = e

-- good under another name too, where the log is as long as any number sent under it
pub renamed : (t : Table) (i j : ℕ) (c : Controller) → GoodController t i c
    → (yes? c.running ≡ true → (s : ℕ) → s < t.count → (message t s).sender ≡ j → (message t s).number.0 ≤ c.length)
    → GoodController t j c
renamed t i j c g long = record {
  log_room = g.log_room;
  log_run = g.log_run;
  log_once = g.log_once;
  places = g.places;
  marks = g.marks;
  apart = g.apart;
  outside = g.outside;
  highest_is = g.highest_is;
  exact = g.exact;
  long = long;
}

module _ (t : Table) (w : WellFormed t) (z : Sized t) (c : ℕ) (p : Payload) (a : SendAllowed t c p) where
  -- the run with the message that c sends
  abbrev longer : Table
  longer = with_message t (sent_message (messages_of t) (at t c) c p)

  -- No controller is called 0, so nothing is asked of the numbers that it sent.
  unnamed_good : GoodController longer 0 (at t c)
  unfolding sent_message
  unnamed_good =
      added_good t _ z a.room 0 (at t c)
      (renamed t c 0 (at t c) (w.controllers c a.sender) (λ _ s h e. absurd (omega (arith, (w.senders s h).low, e))))
      (omega (arith, a.sender.low))

  log_lacks_new : in_log (at t c) t.count ≡ false
  log_lacks_new = log_lacks t c (at t c) (w.controllers c a.sender) t.count (omega arith)

  log_room : (at t c).length ≤ t.count
  log_room = log_within t c (at t c) (w.controllers c a.sender)

  -- its name is new, as c's log is at least as long as any number that c sent
  sent_new : (s : ℕ) → s < t.count → (message t s).sender ≡ c → (message t s).number.0 ≡ (at t c).length + 1 → ⊥
  sent_new s h e k = omega (arith, (w.controllers c a.sender).long a.running s h e)

  -- the date of the register that p writes, as c knows it
  abbrev known : ℕ
  known = (register_of (messages_of t) (at t c).applied p.reg).stamp.date

  new_date : fair_date longer.count (sent_message (messages_of t) (at t c) c p) ≡ true
  unfolding fair_date with_message sent_message date_of register_of
  new_date = go (eqb p.kind 6)
    where
      go : (b : Bool) → cond b (ltb 0 (cond b (known + 1) 0) && leb (cond b (known + 1) 0) (t.count + 1)) (eqb (cond b (known + 1) 0) 0) ≡ true
      go true = both (lt-ltb 0 (known + 1) (omega arith)) (le-leb (known + 1) (t.count + 1) (omega (arith, held_date t.count (newest-held t.messages (applied (at t c)) p.reg t.count) (message_date t w))))
      go false = refl

  -- c has applied each write that it sent, so that the next has a later date
  sent_dated : p.kind ≡ 6 → (s : ℕ) → s < t.count → (message t s).payload.kind ≡ 6 → (message t s).sender ≡ c → (message t s).payload.reg ≡ p.reg
      → (message t s).date ≡ date_of (messages_of t) (at t c).applied p → ⊥
  unfolding date_of register_of writes
  sent_dated k s h l e q d = go (or_cases (held (at t c) s) _ (rw e at (w.kept s h l) a.running))
    where
      go : (held (at t c) s ≡ true) ⊎ (applied (at t c) s ≡ true) → ⊥
      go (inl i) = a.write_waits k s h i e
      go (inr i) =
          omega (
            arith,
            (newest_most t.messages (applied (at t c)) p.reg t.count s h i (both (eq-eqb (message t s).payload.kind 6 l) (eq-eqb (message t s).payload.reg p.reg q))).dates,
            rw k at d,
          )

  but_sender : WellFormedBut longer c
  unfolding with_message controller_in sent_message
  but_sender = record {
    version = w.version;
    some = w.some;
    few = w.few;
    fitting = omega (arith, a.room);
    names = λ i j hi hj. names i j (added t (sent_message (messages_of t) (at t c) c p) z a.room i hi) (added t (sent_message (messages_of t) (at t c) c p) z a.room j hj);
    senders = added_each t (sent_message (messages_of t) (at t c) c p) (λ m. Among t.n m.sender) z a.room a.sender w.senders;
    numbers = added_each t (sent_message (messages_of t) (at t c) c p) (λ m. (0 < m.number.0) × (m.number.0 ≤ 64)) z a.room (omega arith, omega (arith, a.room, log_room)) w.numbers;
    amounts = added_each t (sent_message (messages_of t) (at t c) c p) (λ m. fair_amount m.payload ≡ true) z a.room a.amount w.amounts;
    classes = added_each t (sent_message (messages_of t) (at t c) c p) (λ m. fair_class t.version m.payload ≡ true) z a.room a.class w.classes;
    registers = added_each t (sent_message (messages_of t) (at t c) c p) (λ m. fair_register m.payload ≡ true) z a.room a.register w.registers;
    dates = added_each t (sent_message (messages_of t) (at t c) c p) (λ m. fair_date longer.count m ≡ true) z a.room new_date
        (λ s h. later_fair t longer (message t s) (omega arith) (w.dates s h));
    stamps = λ i j hi hj. stamps i j (added t (sent_message (messages_of t) (at t c) c p) z a.room i hi) (added t (sent_message (messages_of t) (at t c) c p) z a.room j hj);
    kept = λ s h. kept s (added t (sent_message (messages_of t) (at t c) c p) z a.room s h);
    controllers = λ d h n. added_good t (sent_message (messages_of t) (at t c) c p) z a.room d (at t d) (w.controllers d h) n;
  }
    where
      names : (i j : ℕ) → Added t (sent_message (messages_of t) (at t c) c p) i → Added t (sent_message (messages_of t) (at t c) c p) j
          → (message longer i).sender ≡ (message longer j).sender
          → (message longer i).number.0 ≡ (message longer j).number.0 → i ≡ j
      names i j (new hi ei) (new hj ej) e k = hi ∙ sym hj
      names i j (new hi ei) (old hj ej) e k = absurd (sent_new j hj (sym (rw (ei, ej) at e)) (sym (rw (ei, ej) at k)))
      names i j (old hi ei) (new hj ej) e k = absurd (sent_new i hi (rw (ei, ej) at e) (rw (ei, ej) at k))
      names i j (old hi ei) (old hj ej) e k = w.names i j hi hj (rw (ei, ej) at e) (rw (ei, ej) at k)

      stamps : (i j : ℕ) → Added t (sent_message (messages_of t) (at t c) c p) i → Added t (sent_message (messages_of t) (at t c) c p) j
          → (message longer i).payload.kind ≡ 6 → (message longer j).payload.kind ≡ 6 → (message longer i).sender ≡ (message longer j).sender
          → (message longer i).payload.reg ≡ (message longer j).payload.reg → (message longer i).date ≡ (message longer j).date → i ≡ j
      stamps i j (new hi ei) (new hj ej) k l e q d = hi ∙ sym hj
      stamps i j (new hi ei) (old hj ej) k l e q d =
          absurd (sent_dated (rw ei at k) j hj (rw ej at l) (sym (rw (ei, ej) at e)) (sym (rw (ei, ej) at q)) (sym (rw (ei, ej) at d)))
      stamps i j (old hi ei) (new hj ej) k l e q d =
          absurd (sent_dated (rw ej at l) i hi (rw ei at k) (rw (ei, ej) at e) (rw (ei, ej) at q) (rw (ei, ej) at d))
      stamps i j (old hi ei) (old hj ej) k l e q d = w.stamps i j hi hj (rw ei at k) (rw ej at l) (rw (ei, ej) at e) (rw (ei, ej) at q) (rw (ei, ej) at d)

      kept : (s : ℕ) → Added t (sent_message (messages_of t) (at t c) c p) s → (message longer s).payload.kind ≡ 6 → (message longer s).sender ≢ c → Knows (at longer (message longer s).sender) s
      kept s (new h e) k d = absurd (d (ap (λ (m : Message). m.sender) e))
      kept s (old h e) k d = rw e (w.kept s h (rw e at k))

  -- what c sent, it has buffered or applied
  sender_known : (s : ℕ) → s < t.count + 1 → (message longer s).payload.kind ≡ 6
      → (message longer s).sender ≡ c → (held (sent t.count (at t c) c) s || applied (sent t.count (at t c) c) s) ≡ true
  unfolding sent
  sender_known s h = go (added t (sent_message (messages_of t) (at t c) c p) z a.room s h)
    where
      sized : SizedController (with_entry (at t c) t.count)
      sized = entered_sized (at t c) t.count (at_sized t c z (seated w.few a.sender))

      go : Added t (sent_message (messages_of t) (at t c) c p) s → (message longer s).payload.kind ≡ 6
          → (message longer s).sender ≡ c → (held (sent t.count (at t c) c) s || applied (sent t.count (at t c) c) s) ≡ true
      go (new i e) k d = or_left {a = held (sent t.count (at t c) c) s} _ (rw i (marked_held (with_entry (at t c) t.count) t.count unheld.marks c ((at t c).length + 1) sized a.room))
      go (old i e) k d =
          marked_known (with_entry (at t c) t.count) t.count unheld.marks c ((at t c).length + 1) sized a.room s
          (rw (rw e at d) at (w.kept s i (rw e at k)) a.running)

  sender_good : GoodController longer c (sent t.count (at t c) c)
  unfolding with_message sent_message sent
  sender_good =
      renamed longer 0 c (sent t.count (at t c) c)
      (entered_good longer 0 (at t c) unnamed_good (at_sized t c z (seated w.few a.sender)) w.few
      (omega (arith, a.room)) t.count (omega arith) ((w.controllers c a.sender).outside t.count a.room (omega arith)).1
      unheld.marks refl (unheld_marks w.few) c ((at t c).length + 1) (omega arith) (omega (arith, a.room, log_room)) log_lacks_new)
      (λ r. added_each t (sent_message (messages_of t) (at t c) c p) (λ m. m.sender ≡ c → m.number.0 ≤ (at t c).length + 1) z a.room (λ _. omega arith)
      (λ s h e. omega (arith, (w.controllers c a.sender).long r s h e)))

  pub send_well_formed : WellFormed (with_controller longer c (sent t.count (at t c) c))
  unfolding sent with_message controller_in
  send_well_formed =
      replaced longer c (sent t.count (at t c) c) (message_sized t (sent_message (messages_of t) (at t c) c p) z) but_sender a.sender sender_good
      (omega (arith, (w.controllers c a.sender).places c a.sender))
      (λ r h _. omega (arith, (w.controllers r h).places c a.sender))
      (λ s h k e _. sender_known s h k e)

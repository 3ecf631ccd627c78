-- Every event leaves arrays of their types' lengths, accepted or not. Assumes nothing.
use mathlib.Core.Path.{◌≡◌, refl, ap, ◌∙◌}
use mathlib.Core.Logic.{◌≢◌}
use mathlib.Core.List.{List}
use Prim.Native.Nat.{ℕ, ◌+◌, ◌-◌, ◌<◌}
use native.Mathlib.Omega.{arith}
use native.Mathlib.Decide.{ℕ_discrete}
use lib.ListN.{length, get_or, set, length-set, get_or-replicate}
use lib.Seq.{get_or-set_same, get_or-set_other}
use Rattle.lists.proofs.Tests.{cond_case}
use Rattle.lists.proofs.Build.{length-tabulate, get_d_tabulate}
use Rattle.model.specs.Tables.{seats, capacity, absent, at, place, entry, no_controller, no_pending, unheld, idle, start, fresh, with_controller, with_message, with_entry, with_read, with_mark, controller_in, messages_of}
use Rattle.model.specs.Delivery.{Slots, has}
use Rattle.model.specs.Events.{sent, forward, received, deliver, subject, after, with_sent, next}
use Rattle.model.specs.Sized.{Sized, SizedController}
use Rattle.model.specs.declared.ForwardNumber.{ForwardNumber}
use Rattle.model.specs.declared.Message.{Message}
use Rattle.model.specs.declared.Pending.{Pending}
use Rattle.model.specs.declared.Controller.{Controller}
use Rattle.model.specs.declared.Table.{Table}
use Rattle.model.specs.declared.Event.{Event}
use Rattle.model.specs.declared.Event.TheVariants.{Send, Handover, Stop}
use Rattle.model.specs.Facts.{Among}
use Rattle.model.proofs.Handovers.{received_at}
use Rattle.invariant.proofs.Stores.{at_same, at_other, forward_case}

-- CONTROLLERS

pub entered_sized : (c : Controller) (s : ℕ) → SizedController c → SizedController (with_entry c s)
entered_sized c s z = record {
  log = length-set c.log c.length s ∙ z.log;
  read = z.read;
  pending = z.pending;
  marks = z.marks;
  applied = z.applied;
  highest = z.highest;
}

pub read_sized : (c : Controller) (o : ℕ) → SizedController c → SizedController (with_read c o)
read_sized c o z = record {
  log = z.log;
  read = length-set c.read (o - 1) (place c o + 1) ∙ z.read;
  pending = z.pending;
  marks = z.marks;
  applied = z.applied;
  highest = z.highest;
}

pub marked_sized : (c : Controller) (s : ℕ) (ms : List ForwardNumber) (o k : ℕ) → SizedController c → (s < capacity → length ms ≡ seats) → SizedController (with_mark c s ms o k)
marked_sized c s ms o k z l = record {
  log = z.log;
  read = z.read;
  pending = length-set c.pending s _ ∙ z.pending;
  marks = λ r h. go r h (ℕ_discrete r s);
  applied = z.applied;
  highest = z.highest;
}
  where
    go : (r : ℕ) → r < capacity → Dec (r ≡ s) → length (entry (with_mark c s ms o k).pending r).marks ≡ seats
    go r h (yes e) =
        rw (e, get_or-set_same c.pending s _ no_pending (omega (arith, z.pending)))
        (length-set ms (o - 1) _ ∙ l (omega arith))
    go r h (no e) = rw (get_or-set_other c.pending s r _ no_pending e) (z.marks r h)

pub delivered_sized : (t : Table) (c : Controller) (S : Slots) → SizedController c → SizedController (deliver (messages_of t) c S)
unfolding deliver
delivered_sized t c S z = record {
  log = z.log;
  read = z.read;
  pending = length-tabulate capacity _;
  marks = λ s h. rw (get_d_tabulate capacity _ no_pending s h)
      (cond_case (λ (p : Pending). length p.marks ≡ seats) (has S s) unheld (entry c.pending s) (λ _. refl) (λ _. z.marks s h));
  applied = length-tabulate capacity _;
  highest = length-tabulate seats _;
}

pub forward_sized : (c : Controller) (m : Message) (s o k : ℕ) → SizedController c → SizedController (forward c m s o k)
forward_sized c m s o k z =
    forward_case SizedController c m s o k (λ _. z)
    (λ _ _. marked_sized c s (entry c.pending s).marks o k z (z.marks s))
    (λ _ _. marked_sized (with_entry c s) s unheld.marks o k (entered_sized c s z) (λ _. refl))

pub received_sized : (t : Table) (r o : ℕ) → SizedController (at t r) → SizedController (received_at t r o)
unfolding received
received_sized t r o z = forward_sized (with_read (at t r) o) _ _ _ _ (read_sized (at t r) o z)

-- TABLES

pub replaced_sized : (t : Table) (c : ℕ) (x : Controller) → Sized t → (SizedController (at t c) → SizedController x) → Sized (with_controller t c x)
unfolding with_controller controller_in
replaced_sized t c x z f = record {
  messages = z.messages;
  controllers = length-set t.controllers (c - 1) x ∙ z.controllers;
  each = λ i h. go i h (ℕ_discrete i (c - 1));
}
  where
    go : (i : ℕ) → i < seats → Dec (i ≡ c - 1) → SizedController (get_or (set t.controllers (c - 1) x) i no_controller)
    go i h (yes e) =
        rw (e, get_or-set_same t.controllers (c - 1) x no_controller (omega (arith, z.controllers)))
        (f (z.each (c - 1) (omega arith)))
    go i h (no e) = rw (get_or-set_other t.controllers (c - 1) i x no_controller e) (z.each i h)

pub message_sized : (t : Table) (m : Message) → Sized t → Sized (with_message t m)
unfolding with_message
message_sized t m z = record {
  messages = length-set t.messages t.count m ∙ z.messages;
  controllers = z.controllers;
  each = z.each;
}

pub next_sized : (t : Table) (e : Event) → Sized t → Sized (next t e)
unfolding next subject after with_sent sent with_message controller_in
next_sized t (Send c p) z =
    replaced_sized (with_message t _) c _ (message_sized t _ z)
    (λ zc. marked_sized (with_entry (at t c) t.count) t.count unheld.marks c ((at t c).length + 1) (entered_sized (at t c) t.count zc) (λ _. refl))
next_sized t (Handover r o) z = replaced_sized t r _ z (λ zr. delivered_sized t _ _ (received_sized t r o zr))
next_sized t (Stop c k) z = replaced_sized t c _ z (λ zc. record {
  log = zc.log;
  read = zc.read;
  pending = zc.pending;
  marks = zc.marks;
  applied = zc.applied;
  highest = zc.highest;
})

-- THE CONTROLLERS AFTER AN EVENT

sent_sized : (t : Table) (e : Event) → Sized t → Sized (with_sent t e)
unfolding with_sent
sent_sized t (Send c p) z = message_sized t _ z
sent_sized t (Handover r o) z = z
sent_sized t (Stop c k) z = z

sent-at : (t : Table) (e : Event) (d : ℕ) → at (with_sent t e) d ≡ at t d
unfolding with_sent with_message controller_in
sent-at t (Send c p) d = refl
sent-at t (Handover r o) d = refl
sent-at t (Stop c k) d = refl

pub next-same : (t : Table) (e : Event) → Sized t → Among seats (subject e) → at (next t e) (subject e) ≡ after t e
unfolding next
next-same t e z h = at_same (with_sent t e) (subject e) (after t e) (sent_sized t e z) h

pub next_other : (t : Table) (e : Event) (d : ℕ) → Among seats (subject e) → Among seats d → d ≢ subject e → at (next t e) d ≡ at t d
unfolding next
next_other t e d h k n = at_other (with_sent t e) (subject e) d (after t e) h k n ∙ sent-at t e d

-- what the subject is afterwards, and what another was
pub next_case : (t : Table) (e : Event) → Sized t → Among seats (subject e) → (P : Controller → Type 0) (d : ℕ) → Among seats d
    → (d ≡ subject e → P (after t e)) → (d ≢ subject e → P (at t d)) → P (at (next t e) d)
next_case t e z h P d k new old = go (ℕ_discrete d (subject e))
  where
    go : Dec (d ≡ subject e) → P (at (next t e) d)
    go (yes p) = rw (p, next-same t e z h) (new p)
    go (no n) = rw (next_other t e d h k n) (old n)

pub next_n : (t : Table) (e : Event) → (next t e).n ≡ t.n
unfolding next with_sent with_controller with_message
next_n t (Send c p) = refl
next_n t (Handover r o) = refl
next_n t (Stop c k) = refl

-- THE FRESH TABLE

pub fresh_sized : (v n : ℕ) → Sized (fresh v n)
unfolding fresh start idle
fresh_sized v n = record {
  messages = refl;
  controllers = refl;
  each = λ i h. rw (get_or-replicate seats i (idle 1 absent) no_controller h) (record {
    log = refl;
    read = refl;
    pending = refl;
    marks = λ s l. ap (λ (p : Pending). length p.marks) (get_or-replicate capacity s unheld no_pending l);
    applied = refl;
    highest = refl;
  });
}

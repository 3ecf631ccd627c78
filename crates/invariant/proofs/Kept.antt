-- A fresh table is well formed, every accepted event keeps a well-formed table well formed, and so every call does.
-- Assumes nothing.
use mathlib.Core.Path.{◌≡◌, ap}
use mathlib.Core.Bool.{true}
use mathlib.Core.List.{List}
use Prim.Native.Nat.{ℕ, ◌-◌, ◌≤◌}
use native.Mathlib.Nat.{not-suc-le-zero}
use native.Mathlib.Omega.{arith}
use lib.ListN.{get_or-replicate}
use Rattle.lists.specs.Below.{greatest}
use Rattle.model.specs.Tables.{seats, capacity, absent, yes?, at, none, no_controller, no_pending, unheld, idle, start, fresh, controller_in}
use Rattle.model.specs.Events.{subject, after, with_sent, next, resulting}
use Rattle.model.specs.Records.{decode}
use Rattle.model.specs.Sized.{Sized}
use Rattle.model.specs.Facts.{greatest_applied, Among, GoodController, WellFormed}
use Rattle.model.specs.WellFormed.{well_formed}
use Rattle.model.specs.Questions.{FreshAllowed, first_no, event_questions, command_questions}
use Rattle.model.specs.Calls.{Outcome, accepted, refused, step, event}
use Rattle.model.specs.declared.MessageNumber.{MessageNumber}
use Rattle.model.specs.declared.Pending.{Pending}
use Rattle.model.specs.declared.Table.{Table}
use Rattle.model.specs.declared.Event.{Event}
use Rattle.model.specs.declared.Event.TheVariants.{Send, Handover, Stop}
use Rattle.model.specs.declared.Command.{Command}
use Rattle.model.specs.declared.Command.TheVariants.{Act, Read}
use Rattle.model.proofs.Tested.{facts, tested}
use Rattle.model.proofs.Allowed.{step_asked, send_allowed, handover_allowed, stop_allowed}
use Rattle.model.proofs.Steps.{step_case, event_is_step}
use Rattle.invariant.proofs.Sizes.{next_sized}
use Rattle.invariant.proofs.Sending.{send_well_formed}
use Rattle.invariant.proofs.Receiving.{handover_well_formed}
use Rattle.invariant.proofs.Stopping.{stop_well_formed}

-- THE FRESH TABLE

pub at-fresh : (v n c : ℕ) → Among seats c → at (fresh v n) c ≡ idle 1 absent
unfolding controller_in fresh start
at-fresh v n c h = get_or-replicate seats (c - 1) (idle 1 absent) no_controller (omega arith)

idle_good : (v n i : ℕ) → n ≤ seats → GoodController (fresh v n) i (idle 1 absent)
unfolding fresh start idle greatest_applied greatest
idle_good v n i l = record {
  log_room = omega arith;
  log_run = λ k h. absurd (not-suc-le-zero h);
  log_once = λ j k h. absurd (not-suc-le-zero h);
  places = λ o h. rw (get_or-replicate {A = ℕ} seats (o - 1) 0 0 (omega arith)) (omega arith);
  marks = λ s f h. absurd (not-suc-le-zero h);
  apart = λ s h. absurd (not-suc-le-zero h);
  outside = λ s h _.
      (ap (λ (p : Pending). yes? p.held) (get_or-replicate capacity s unheld no_pending h), ap (λ f. yes? f) (get_or-replicate capacity s 0 0 h));
  highest_is = λ x h. ap (λ (m : MessageNumber). m.0) (get_or-replicate seats (x - 1) none none (omega arith));
  exact = λ r s h. absurd (not-suc-le-zero h);
  long = λ r s h. absurd (not-suc-le-zero h);
}

pub fresh_well_formed : {v n : ℕ} → FreshAllowed v n → WellFormed (fresh v n)
unfolding fresh start
fresh_well_formed {v} {n} a = record {
  version = a.version;
  some = a.some;
  few = a.few;
  fitting = omega arith;
  names = λ i j h. absurd (not-suc-le-zero h);
  senders = λ s h. absurd (not-suc-le-zero h);
  numbers = λ s h. absurd (not-suc-le-zero h);
  amounts = λ s h. absurd (not-suc-le-zero h);
  classes = λ s h. absurd (not-suc-le-zero h);
  registers = λ s h. absurd (not-suc-le-zero h);
  dates = λ s h. absurd (not-suc-le-zero h);
  stamps = λ i j h. absurd (not-suc-le-zero h);
  kept = λ s h. absurd (not-suc-le-zero h);
  controllers = λ c h. rw (at-fresh v n c (omega (arith, a.few))) (idle_good v n c a.few);
}

-- EVENTS

pub next_well_formed : (t : Table) (e : Event) → Sized t → WellFormed t → first_no (event_questions t e) ≡ 0 → WellFormed (next t e)
unfolding next subject after with_sent
next_well_formed t (Send c p) z w q = send_well_formed t w z c p (send_allowed t c p q)
next_well_formed t (Handover r o) z w q = handover_well_formed t w z r o (handover_allowed t r o q)
next_well_formed t (Stop c k) z w q = stop_well_formed t w z c k (stop_allowed t c k q)

pub resulting_kept : (t : Table) (a : Command) → Sized t → WellFormed t → first_no (command_questions t a) ≡ 0 → Sized (resulting t a) × WellFormed (resulting t a)
unfolding resulting command_questions
resulting_kept t (Act e) z w q = (next_sized t e z, next_well_formed t e z w q)
resulting_kept t (Read c) z w q = (z, w)

-- CALLS

pub step_kept : (t : Table) (s : List ℕ) (room : ℕ) → Sized t → well_formed t ≡ true → Sized (step t s room).table × (well_formed (step t s room).table ≡ true)
unfolding accepted refused
step_kept t s room z w =
    step_case t s room (λ (o : Outcome). Sized o.table × (well_formed o.table ≡ true))
    (λ e. let k = resulting_kept t (decode t.version s) z (facts t w) (step_asked t s room e).1 in (k.0, tested _ k.1))
    (λ _. (z, w))

pub event_kept : (t : Table) (s : List ℕ) (room : ℕ) → Sized t → well_formed t ≡ true → Sized (event t s room).table × (well_formed (event t s room).table ≡ true)
event_kept t s room z w = rw (event_is_step t s room w) (step_kept t s room z w)

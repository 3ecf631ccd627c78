-- The fresh state shows the fresh table, and every event that no question refuses is a legal event of the abstract system.
-- Assumes nothing.
use mathlib.Core.Path.{◌≡◌, refl, sym, ap, ◌∙◌}
use Prim.Native.Nat.{ℕ, zero, suc, ◌-◌, ◌≤◌}
use native.Mathlib.Nat.{not-suc-le-zero}
use native.Mathlib.Omega.{arith}
use lib.ListN.{get_or-replicate}
use Rattle.model.specs.Tables.{seats, capacity, absent, mark, unheld, no_pending, idle, start, fresh}
use Rattle.model.specs.Events.{next}
use Rattle.model.specs.Questions.{FreshAllowed, first_no, event_questions}
use Rattle.model.specs.declared.Pending.{Pending}
use Rattle.model.specs.declared.Table.{Table}
use Rattle.model.specs.declared.Event.{Event}
use Rattle.model.specs.declared.Event.TheVariants.{Send, Handover, Stop}
use Rattle.model.proofs.Allowed.{send_allowed, handover_allowed, stop_allowed}
use Rattle.invariant.proofs.Sizes.{fresh_sized}
use Rattle.invariant.proofs.Buffering.{unheld-absent}
use Rattle.invariant.proofs.Kept.{at-fresh, fresh_well_formed}
use Rattle.broadcast.specs.State.{State, fresh as fresh_state}
use Rattle.broadcast.proofs.Reachable.{fresh-all}
use Rattle.consistency.proofs.Bridge.{top, system, code_at, ShowsBy, Related}
use Rattle.consistency.proofs.BridgeKept.{Followed}
use Rattle.consistency.proofs.BridgeSend.{send_followed}
use Rattle.consistency.proofs.BridgeHandover.{handover_followed}
use Rattle.consistency.proofs.BridgeStop.{stop_followed}

idle_shows : (n : ℕ) (name : ℕ → ℕ) (i : ℕ) → n ≤ seats → ShowsBy n 0 name (fresh_state top) i (idle 1 absent)
unfolding idle fresh_state
idle_shows n name i few = record {
  length = refl;
  places = λ o l. sym (get_or-replicate {A = ℕ} seats (suc o - 1) 0 0 (omega arith));
  running = refl;
  log = λ p l. absurd (not-suc-le-zero l);
  applied_is = λ j l. absurd (not-suc-le-zero l);
  marks = record { stored = λ j l. absurd (not-suc-le-zero l) };
  absent_marks = λ j f l b _. ap (λ (p : Pending). mark p f) (get_or-replicate capacity j unheld no_pending l) ∙ unheld-absent f b;
}

pub fresh_related : {v n : ℕ} → FreshAllowed v n → Related n (fresh v n) (fresh_state top)
unfolding fresh start fresh_state
fresh_related {v} {n} a = record {
  sized = fresh_sized v n;
  formed = fresh_well_formed a;
  size = refl;
  all = fresh-all (system n);
  controllers = λ i l. rw (at-fresh v n (suc i) (omega (arith, a.few))) (idle_shows n (code_at (fresh v n)) i a.few);
  slot_of = λ i m l. absurd (omega arith);
  numbered = λ j l. absurd (not-suc-le-zero l);
}

pub next_related : {n : ℕ} {t : Table} {s : State} → Related n t s → (e : Event) → first_no (event_questions t e) ≡ 0 → Followed n (next t e) s
next_related {t = t} g (Send zero p) q = absurd (omega (arith, (send_allowed t 0 p q).sender.low))
next_related {t = t} g (Send (suc c) p) q = send_followed g c p q
next_related {t = t} g (Handover zero o) q = absurd (omega (arith, (handover_allowed t 0 o q).receiver.low))
next_related {t = t} g (Handover (suc r) zero) q = absurd (omega (arith, (handover_allowed t (suc r) 0 q).owner.low))
next_related {t = t} g (Handover (suc r) (suc o)) q = handover_followed g r o q
next_related {t = t} g (Stop zero k) q = absurd (omega (arith, (stop_allowed t 0 k q).controller.low))
next_related {t = t} g (Stop (suc c) k) q = stop_followed g c k q

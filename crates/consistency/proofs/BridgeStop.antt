-- An allowed stop is a legal crash. Assumes nothing.
use mathlib.Core.Path.{◌≡◌, refl, ◌∙◌}
use mathlib.Core.Bool.{false}
use mathlib.Core.Logic.{◌≢◌}
use Prim.Native.Nat.{ℕ, suc, ◌<◌}
use native.Mathlib.Omega.{arith}
use Rattle.model.specs.Tables.{at, with_stop}
use Rattle.model.specs.Events.{subject, after, with_sent, next}
use Rattle.model.specs.Questions.{first_no, event_questions}
use Rattle.model.specs.declared.Table.{Table}
use Rattle.model.specs.declared.Event.TheVariants.{Stop}
use Rattle.model.proofs.Allowed.{StopAllowed, stop_allowed}
use Rattle.broadcast.specs.State.{State, crash}
use Rattle.broadcast.specs.Events.{MayCrash, crashes}
use Rattle.broadcast.proofs.Updates.{update_same, update_other}
use Rattle.broadcast.proofs.Settled.{crash_view}
use Rattle.broadcast.proofs.Stored.{crash-stored}
use Rattle.consistency.proofs.Bridge.{system, code_at, marks_of, Shows, Related}
use Rattle.consistency.proofs.BridgeFacts.{few}
use Rattle.consistency.proofs.BridgeKept.{same_shows, Followed, followed}

module _ {n : ℕ} {t : Table} {s : State} (g : Related n t s) (c k : ℕ) (q : first_no (event_questions t (Stop (suc c) k)) ≡ 0) where
  a : StopAllowed t (suc c) k
  a = stop_allowed t (suc c) k q

  process : c < n
  process = omega (arith, a.controller, g.size)

  may_crash : MayCrash (system n) s c k
  may_crash = record {
    process = omega (arith, few g, process);
    running = (g.controllers c process).running ∙ a.running;
    fits = omega (arith, a.within, (g.controllers c process).length);
    keeps_read = λ r l.
        let b : r < n = omega arith in
        omega (arith, (g.controllers r b).places c process, a.read_kept (suc r) (omega (arith, g.size)));
  }

  stopped_shows : Shows n t (crash s c k) c (with_stop (at t (suc c)) k)
  unfolding crash
  stopped_shows = let h = g.controllers c process in record {
    length = update_same s.readable c k;
    places = h.places;
    running = update_same s.running c false;
    log = λ p l. h.log p (omega (arith, a.within));
    applied_is = h.applied_is;
    marks = crash-stored (system n) t.count (code_at t) (marks_of (at t (suc c))) (marks_of (at t (suc c))) s c c k h.marks;
    absent_marks = h.absent_marks;
  }

  others_show : (i : ℕ) → i < n → i ≢ c → Shows n t (crash s c k) i (at t (suc i))
  unfolding crash
  others_show i l d =
      same_shows n t.count (code_at t) s (crash s c k) i (at t (suc i)) (crash_view (system n) s c k i)
      (update_other s.readable c k i d) (λ o. refl) (update_other s.running c false i d) (g.controllers i l)

  pub stop_followed : Followed n (next t (Stop (suc c) k)) s
  unfolding subject after with_sent crash
  stop_followed =
      followed g (Stop (suc c) k) q c refl (crash s c k) (crashes c k may_crash) stopped_shows others_show g.slot_of g.numbered

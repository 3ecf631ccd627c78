-- An allowed stop keeps a well-formed table well formed: a prefix of a good log is good. Assumes nothing.
use mathlib.Core.Bool.{false≢true}
use Prim.Native.Nat.{ℕ, ◌≤◌}
use native.Mathlib.Omega.{arith}
use Rattle.model.specs.Tables.{at, with_controller, with_stop}
use Rattle.model.specs.Sized.{Sized}
use Rattle.model.specs.Facts.{greatest_applied, GoodController, WellFormed}
use Rattle.model.specs.declared.Controller.{Controller}
use Rattle.model.specs.declared.Table.{Table}
use Rattle.model.proofs.Allowed.{StopAllowed}
use Rattle.invariant.proofs.Replacing.{but_one, replaced}

stopped_good : (t : Table) (i : ℕ) (c : Controller) (k : ℕ) → GoodController t i c → k ≤ c.length → GoodController t i (with_stop c k)
unfolding greatest_applied
stopped_good t i c k g l = record {
  log_room = omega (arith, g.log_room);
  log_run = λ j h. g.log_run j (omega arith);
  log_once = λ j m hj hm. g.log_once j m (omega arith) (omega arith);
  places = g.places;
  marks = g.marks;
  apart = g.apart;
  outside = g.outside;
  highest_is = g.highest_is;
  exact = λ r. absurd (false≢true r);
  long = λ r. absurd (false≢true r);
}

pub stop_well_formed : (t : Table) → WellFormed t → Sized t → (c k : ℕ) → StopAllowed t c k → WellFormed (with_controller t c (with_stop (at t c) k))
stop_well_formed t w z c k a =
    replaced t c (with_stop (at t c) k) z (but_one t c w) a.controller (stopped_good t c (at t c) k (w.controllers c a.controller) a.within)
    (a.read_kept c a.controller) (λ r h _. a.read_kept r h) (λ s h k e r. absurd (false≢true r))

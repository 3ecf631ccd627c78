-- A table stays well formed when one controller is replaced by a good one whose log holds every read position in it.
-- Assumes nothing.
use mathlib.Core.Path.{◌≡◌}
use mathlib.Core.Bool.{true, ◌||◌}
use mathlib.Core.Logic.{◌≢◌}
use Prim.Native.Nat.{ℕ, ◌≤◌, ◌<◌}
use native.Mathlib.Decide.{ℕ_discrete}
use Rattle.model.specs.Tables.{seats, capacity, yes?, at, message, place, held, applied, with_controller, message_in}
use Rattle.model.specs.Sized.{Sized}
use Rattle.model.specs.Fair.{known, fair_amount, fair_class, fair_register, fair_date}
use Rattle.model.specs.Facts.{greatest_applied, Among, GoodController, WellFormed}
use Rattle.model.specs.declared.Controller.{Controller}
use Rattle.model.specs.declared.Table.{Table}
use Rattle.invariant.proofs.Stores.{seated, at_same, at_other}

-- while it runs, x has slot s pending or applied
abbrev pub Knows : Controller → ℕ → Type 0
Knows x s = yes? x.running ≡ true → (held x s || applied x s) ≡ true

-- well formed, but perhaps for controller c
pub record WellFormedBut (t : Table) (c : ℕ) : Type 0 where
  pub version : known t.version ≡ true
  pub some : 0 < t.n
  pub few : t.n ≤ seats
  pub fitting : t.count ≤ capacity
  pub names : (i j : ℕ) → i < t.count → j < t.count
      → (message t i).sender ≡ (message t j).sender → (message t i).number.0 ≡ (message t j).number.0 → i ≡ j
  pub senders : (s : ℕ) → s < t.count → Among t.n (message t s).sender
  pub numbers : (s : ℕ) → s < t.count → (0 < (message t s).number.0) × ((message t s).number.0 ≤ 64)
  pub amounts : (s : ℕ) → s < t.count → fair_amount (message t s).payload ≡ true
  pub classes : (s : ℕ) → s < t.count → fair_class t.version (message t s).payload ≡ true
  pub registers : (s : ℕ) → s < t.count → fair_register (message t s).payload ≡ true
  pub dates : (s : ℕ) → s < t.count → fair_date t.count (message t s) ≡ true
  pub stamps : (i j : ℕ) → i < t.count → j < t.count → (message t i).payload.kind ≡ 6 → (message t j).payload.kind ≡ 6
      → (message t i).sender ≡ (message t j).sender → (message t i).payload.reg ≡ (message t j).payload.reg
      → (message t i).date ≡ (message t j).date → i ≡ j
  pub kept : (s : ℕ) → s < t.count → (message t s).payload.kind ≡ 6 → (message t s).sender ≢ c → Knows (at t (message t s).sender) s
  pub controllers : (d : ℕ) → Among t.n d → d ≢ c → GoodController t d (at t d)

pub but_one : (t : Table) (c : ℕ) → WellFormed t → WellFormedBut t c
but_one t c w = record {
  version = w.version;
  some = w.some;
  few = w.few;
  fitting = w.fitting;
  names = w.names;
  senders = w.senders;
  numbers = w.numbers;
  amounts = w.amounts;
  classes = w.classes;
  registers = w.registers;
  dates = w.dates;
  stamps = w.stamps;
  kept = λ s h k _. w.kept s h k;
  controllers = λ d h _. w.controllers d h;
}

-- the read positions may be those of another table
with_places : (t : Table) (c : ℕ) (x : Controller) (d : ℕ) (y : Controller) → GoodController t d y
    → ((o : ℕ) → Among t.n o → place y o ≤ (at (with_controller t c x) o).length)
    → GoodController (with_controller t c x) d y
unfolding with_controller message_in greatest_applied
with_places t c x d y g p = record {
  log_room = g.log_room;
  log_run = g.log_run;
  log_once = g.log_once;
  places = p;
  marks = g.marks;
  apart = g.apart;
  outside = g.outside;
  highest_is = g.highest_is;
  exact = g.exact;
  long = g.long;
}

pub replaced : (t : Table) (c : ℕ) (x : Controller) → Sized t → WellFormedBut t c → Among t.n c → GoodController t c x
    → place x c ≤ x.length → ((r : ℕ) → Among t.n r → r ≢ c → place (at t r) c ≤ x.length)
    → ((s : ℕ) → s < t.count → (message t s).payload.kind ≡ 6 → (message t s).sender ≡ c → Knows x s)
    → WellFormed (with_controller t c x)
unfolding with_controller message_in fair_date
replaced t c x z w hc g own others written = record {
  version = w.version;
  some = w.some;
  few = w.few;
  fitting = w.fitting;
  names = w.names;
  senders = w.senders;
  numbers = w.numbers;
  amounts = w.amounts;
  classes = w.classes;
  registers = w.registers;
  dates = w.dates;
  stamps = w.stamps;
  kept = λ s h k. kept s h k (ℕ_discrete (message t s).sender c);
  controllers = λ d h. good d h (ℕ_discrete d c);
}
  where
    -- a position that does not pass an old log end nor the end of the log of x
    within : (p o : ℕ) → Among t.n o → Dec (o ≡ c) → p ≤ (at t o).length → (o ≡ c → p ≤ x.length) → p ≤ (at (with_controller t c x) o).length
    within p o h (yes e) l m = rw (e, at_same t c x z (seated w.few hc)) (m e)
    within p o h (no e) l m = rw (at_other t c o x (seated w.few hc) (seated w.few h) e) l

    kept : (s : ℕ) → s < t.count → (message t s).payload.kind ≡ 6 → Dec ((message t s).sender ≡ c) → Knows (at (with_controller t c x) (message t s).sender) s
    kept s h k (yes e) = rw (e, at_same t c x z (seated w.few hc)) (written s h k e)
    kept s h k (no e) = rw (at_other t c (message t s).sender x (seated w.few hc) (seated w.few (w.senders s h)) e) (w.kept s h k e)

    good : (d : ℕ) → Among t.n d → Dec (d ≡ c) → GoodController (with_controller t c x) d (at (with_controller t c x) d)
    good d h (yes e) =
        rw (e, at_same t c x z (seated w.few hc))
        (with_places t c x c x g (λ o ho. within (place x o) o ho (ℕ_discrete o c) (g.places o ho) (λ q. rw q own)))
    good d h (no e) =
        rw (at_other t c d x (seated w.few hc) (seated w.few h) e)
        (with_places t c x d (at t d) (w.controllers d h e)
        (λ o ho. within (place (at t d) o) o ho (ℕ_discrete o c) ((w.controllers d h e).places o ho) (λ q. rw q (others d h e))))

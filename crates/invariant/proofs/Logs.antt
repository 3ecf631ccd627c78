-- A log names a slot where one of its entries is that slot; what one entry more changes; a log has room for a slot that it lacks.
-- Assumes nothing.
use mathlib.Core.Path.{◌≡◌, sym, ◌∙◌}
use mathlib.Core.Bool.{true, false}
use mathlib.Core.Logic.{◌≢◌}
use Prim.Native.Nat.{ℕ, ◌+◌, ◌≤◌, ◌<◌}
use native.Mathlib.Omega.{arith}
use native.Mathlib.Decide.{ℕ_discrete}
use lib.Dec.{eqb}
use lib.Seq.{get_or-set_same, get_or-set_other}
use borrow.Author.Tests.{ltb-true, eqb-true, lt-ltb, eq-eqb}
use Rattle.lists.proofs.Tests.{refuted, bool_eq, contradiction}
use Rattle.lists.proofs.Below.{count_pos, count-found, distinct_room, distinct_room_less}
use Rattle.model.specs.Tables.{capacity, slot_at, with_entry}
use Rattle.model.specs.Sized.{SizedController}
use Rattle.model.specs.Facts.{in_log, GoodController}
use Rattle.model.specs.declared.Controller.{Controller}
use Rattle.model.specs.declared.Table.{Table}

-- where a log names a slot
pub record Entry (c : Controller) (s : ℕ) : Type 0 where
  pub index : ℕ
  pub below : index < c.length
  pub names : slot_at c index ≡ s

pub in_log_at : (c : Controller) (s : ℕ) → in_log c s ≡ true → Entry c s
unfolding in_log
in_log_at c s e =
    let f = count-found c.length (λ k. eqb (slot_at c k) s) (ltb-true 0 _ e) in
    record { index = f.which; below = f.below; names = eqb-true (slot_at c f.which) s f.passes }

pub in_log_of : (c : Controller) (s : ℕ) → Entry c s → in_log c s ≡ true
unfolding in_log
in_log_of c s f = lt-ltb 0 _ (count_pos c.length (λ k. eqb (slot_at c k) s) f.index f.below (eq-eqb (slot_at c f.index) s f.names))

pub not_in_log : (c : Controller) (s : ℕ) → in_log c s ≡ false → (k : ℕ) → k < c.length → slot_at c k ≢ s
not_in_log c s e k h p = contradiction (in_log_of c s (record { index = k; below = h; names = p })) e

-- a log names only messages of the run
pub log_lacks : (t : Table) (i : ℕ) (c : Controller) → GoodController t i c → (s : ℕ) → t.count ≤ s → in_log c s ≡ false
log_lacks t i c g s h = refuted (in_log c s) (λ e.
    let f = in_log_at c s e in omega (arith, g.log_run f.index f.below, f.names))

-- a log names no message twice, so it is no longer than the run
pub log_within : (t : Table) (i : ℕ) (c : Controller) → GoodController t i c → c.length ≤ t.count
log_within t i c g =
    distinct_room t.count c.length (slot_at c) g.log_run (λ j k hj l p. omega (arith, g.log_once j k hj (omega arith) p))

-- a message of the run that the log lacks: the log is shorter than the run
pub log_shorter : (t : Table) (i : ℕ) (c : Controller) → GoodController t i c → (s : ℕ) → s < t.count → in_log c s ≡ false → c.length < t.count
log_shorter t i c g s h e =
    distinct_room_less t.count c.length (slot_at c) g.log_run
    (λ j k hj l p. omega (arith, g.log_once j k hj (omega arith) p)) s h (not_in_log c s e)

-- ONE ENTRY MORE

module _ (c : Controller) (s : ℕ) where
  -- an entry of the longer log
  pub data Entered (j : ℕ) : Type 0 where
    last : j ≡ c.length → slot_at (with_entry c s) j ≡ s → Entered j
    earlier : j < c.length → slot_at (with_entry c s) j ≡ slot_at c j → Entered j

  pub entered : SizedController c → c.length < capacity → (j : ℕ) → j < c.length + 1 → Entered j
  entered z h j l = go (ℕ_discrete j c.length)
    where
      go : Dec (j ≡ c.length) → Entered j
      go (yes p) = last p (rw p (get_or-set_same c.log c.length s 0 (omega (arith, z.log))))
      go (no p) = earlier (omega (arith, p)) (get_or-set_other c.log c.length j s 0 p)

  pub entered_in_log : SizedController c → c.length < capacity → in_log (with_entry c s) s ≡ true
  entered_in_log z h = in_log_of (with_entry c s) s (record { index = c.length; below = omega arith; names = get_or-set_same c.log c.length s 0 (omega (arith, z.log)) })

  pub entered_in_log_other : SizedController c → c.length < capacity → (r : ℕ) → r ≢ s → in_log (with_entry c s) r ≡ in_log c r
  entered_in_log_other z h r d = bool_eq _ _ (λ e. back (in_log_at (with_entry c s) r e)) (λ e. on (in_log_at c r e))
    where
      back : Entry (with_entry c s) r → in_log c r ≡ true
      back f = go (entered z h f.index f.below)
        where
          go : Entered f.index → in_log c r ≡ true
          go (last p q) = absurd (d (sym f.names ∙ q))
          go (earlier p q) = in_log_of c r (record { index = f.index; below = p; names = sym q ∙ f.names })

      on : Entry c r → in_log (with_entry c s) r ≡ true
      on f = in_log_of (with_entry c s) r (record {
        index = f.index;
        below = omega (arith, f.below);
        names = get_or-set_other c.log c.length f.index s 0 (omega (arith, f.below)) ∙ f.names;
      })

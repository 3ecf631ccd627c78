-- What is read after one controller, or one entry of its buffer, is replaced. Assumes nothing.
use mathlib.Core.Path.{◌≡◌, ap}
use mathlib.Core.Bool.{true, false, ◌||◌}
use mathlib.Core.Logic.{◌≢◌}
use mathlib.Core.List.{List}
use Prim.Native.Nat.{ℕ, ◌+◌, ◌-◌, ◌≤◌, ◌<◌}
use native.Mathlib.Omega.{arith}
use native.Mathlib.Decide.{ℕ_discrete}
use lib.ListN.{length, get_or, set}
use lib.Dec.{leb}
use lib.Seq.{get_or-set_same, get_or-set_other}
use Rattle.lists.proofs.Tests.{or_left, cond_case}
use Rattle.model.specs.Tables.{seats, capacity, yes?, at, message, place, entry, held, mark, applied, highest, unheld, no_controller, no_message, no_pending, forward_number, with_controller, with_message, with_entry, with_read, with_mark, controller_in, message_in}
use Rattle.model.specs.Events.{forward}
use Rattle.model.specs.Sized.{Sized, SizedController}
use Rattle.model.specs.declared.ForwardNumber.{ForwardNumber}
use Rattle.model.specs.declared.Message.{Message}
use Rattle.model.specs.declared.Pending.{Pending}
use Rattle.model.specs.declared.Controller.{Controller}
use Rattle.model.specs.declared.Table.{Table}
use Rattle.model.specs.Facts.{Among}

-- every named controller has a seat
pub seated : {n c : ℕ} → n ≤ seats → Among n c → Among seats c
seated few h = record { low = h.low; high = omega (arith, h.high) }

-- A CONTROLLER REPLACED

pub at_same : (t : Table) (c : ℕ) (x : Controller) → Sized t → Among seats c → at (with_controller t c x) c ≡ x
unfolding controller_in with_controller
at_same t c x z h = get_or-set_same t.controllers (c - 1) x no_controller (omega (arith, z.controllers))

pub at_other : (t : Table) (c d : ℕ) (x : Controller) → Among seats c → Among seats d → d ≢ c → at (with_controller t c x) d ≡ at t d
unfolding controller_in with_controller
at_other t c d x hc hd f = get_or-set_other t.controllers (c - 1) (d - 1) x no_controller (omega arith)

pub at_sized : (t : Table) (c : ℕ) → Sized t → Among seats c → SizedController (at t c)
unfolding controller_in
at_sized t c z h = z.each (c - 1) (omega arith)

-- A MESSAGE ADDED

pub message_new : (t : Table) (m : Message) → Sized t → t.count < capacity → message (with_message t m) t.count ≡ m
unfolding message_in with_message
message_new t m z h = get_or-set_same t.messages t.count m no_message (omega (arith, z.messages))

pub message_old : (t : Table) (m : Message) (s : ℕ) → s < t.count → message (with_message t m) s ≡ message t s
unfolding message_in with_message
message_old t m s h = get_or-set_other t.messages t.count s m no_message (omega arith)

-- A PLACE MOVED ON

pub read_place : (c : Controller) (o : ℕ) → SizedController c → Among seats o → place (with_read c o) o ≡ place c o + 1
read_place c o z h = get_or-set_same c.read (o - 1) (place c o + 1) 0 (omega (arith, z.read))

pub read_place_other : (c : Controller) (o q : ℕ) → Among seats o → Among seats q → q ≢ o → place (with_read c o) q ≡ place c q
read_place_other c o q ho hq d = get_or-set_other c.read (o - 1) (q - 1) (place c o + 1) 0 (omega arith)

-- AN ENTRY OF THE BUFFER REPLACED

module _ (c : Controller) (s : ℕ) (ms : List ForwardNumber) (o k : ℕ) where
  pub marked_held : SizedController c → s < capacity → held (with_mark c s ms o k) s ≡ true
  marked_held z h = ap (λ (p : Pending). yes? p.held) (get_or-set_same c.pending s _ no_pending (omega (arith, z.pending)))

  -- a property that the new mark and the given mark of f have
  pub marked_marks : (P : ℕ → Type 0) → SizedController c → s < capacity → length ms ≡ seats → P k
      → (f : ℕ) → f < seats → P (get_or ms f (forward_number 0)).0 → P (mark (entry (with_mark c s ms o k).pending s) f)
  marked_marks P z h l pk f hf pf = rw (get_or-set_same c.pending s _ no_pending (omega (arith, z.pending))) (go (ℕ_discrete f (o - 1)))
    where
      go : Dec (f ≡ o - 1) → P (get_or (set ms (o - 1) (forward_number k)) f (forward_number 0)).0
      go (yes e) = rw (e, get_or-set_same ms (o - 1) (forward_number k) (forward_number 0) (omega arith)) pk
      go (no e) = rw (get_or-set_other ms (o - 1) f (forward_number k) (forward_number 0) e) pf

  pub marked_entry_other : (r : ℕ) → r ≢ s → entry (with_mark c s ms o k).pending r ≡ entry c.pending r
  marked_entry_other r f = get_or-set_other c.pending s r _ no_pending f

  pub marked_held_other : (r : ℕ) → r ≢ s → held (with_mark c s ms o k) r ≡ held c r
  marked_held_other r f = ap (λ (p : Pending). yes? p.held) (marked_entry_other r f)

  -- what was buffered or applied still is
  pub marked_known : SizedController c → s < capacity → (r : ℕ) → (held c r || applied c r) ≡ true → (held (with_mark c s ms o k) r || applied c r) ≡ true
  marked_known z h r e = go (ℕ_discrete r s)
    where
      go : Dec (r ≡ s) → (held (with_mark c s ms o k) r || applied c r) ≡ true
      go (yes q) = or_left {a = held (with_mark c s ms o k) r} (applied c r) (rw q (marked_held z h))
      go (no q) = rw (marked_held_other r q) e

-- AN ENTRY READ: passed over, marked, or buffered and forwarded

pub forward_case : (P : Controller → Type 0) (c : Controller) (m : Message) (s o k : ℕ)
    → (leb m.number.0 (highest c m.sender) ≡ true → P c)
    → (leb m.number.0 (highest c m.sender) ≡ false → held c s ≡ true → P (with_mark c s (entry c.pending s).marks o k))
    → (leb m.number.0 (highest c m.sender) ≡ false → held c s ≡ false → P (with_mark (with_entry c s) s unheld.marks o k))
    → P (forward c m s o k)
unfolding forward
forward_case P c m s o k passed marked entered =
    cond_case P (leb m.number.0 (highest c m.sender)) c _ passed
    (λ above. cond_case P (held c s) (with_mark c s (entry c.pending s).marks o k) _ (marked above) (entered above))

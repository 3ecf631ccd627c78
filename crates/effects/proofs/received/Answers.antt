-- `received` is the receiver of the definition after it has read.
use Rattle.std.proofs.Common.{◌≡◌, ℕ, ◌+◌, ◌-◌, min, get_or, set, arith}
use Rattle.model.specs.Tables.{Messages, capacity, message_in, place, slot_at}
use Rattle.model.specs.Events.{forward, next_slot, received}
use Rattle.model.specs.declared.Controller.{Controller}
use Rattle.effects.specs.Conditions.{Receivable, Readable}
use Rattle.effects.proofs.Seats.{seat_is}
use Rattle.effects.proofs.received.Goals as goal

-- what is read at the bounded places is what the definition reads: the place of the receiver in the log, and the slot that stands there
received_read : (M : Messages) (x y : Controller) (o i k s : ℕ) → Readable M.slots x y o
    → i ≡ o - 1 → k ≡ min (get_or x.read i 0) (capacity - 1) → s ≡ min (get_or y.log k 0) (capacity - 1)
    → let c : Controller = record x { read = set x.read i (k + 1) } in
    (z : Controller) → (Receivable c (message_in M.slots s) s o → z ≡ forward c (message_in M.slots s) s o (k + 1)) → z ≡ received M x y o
unfolding received next_slot
received_read M x y o i k s h ei ek es z f =
    let k-is : k ≡ place x o = omega (arith, rw ei at ek, h.next) in
    let s-is : s ≡ slot_at y (place x o) = omega (arith, rw k-is at es, h.slot) in
    (rw (ei, k-is, s-is) at f) h.entry

pub returns : goal.returns
unfolding message_in
returns c h = received_read _ _ _ _ _ _ _ h (seat_is _ _ c.seat-i.ensures h.owner) c.min-place.ensures c.min-slot.ensures _ c.forward.ensures

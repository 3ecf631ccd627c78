-- What a handover passes over was applied: so on every table that a run reaches, and not on every well-formed one. Assumes nothing.
use mathlib.Core.Path.{◌≡◌, sym, ap, ◌∙◌}
use mathlib.Core.Bool.{true}
use Prim.Native.Nat.{ℕ, ◌-◌, ◌≤◌, ◌<◌}
use native.Mathlib.Omega.{arith}
use lib.Dec.{leb}
use borrow.Author.Tests.{leb-true}
use Rattle.model.specs.Tables.{at, message, applied, highest}
use Rattle.model.specs.declared.Table.{Table}
use Rattle.model.specs.Facts.{Among}
use Rattle.model.proofs.Allowed.{HandoverAllowed}
use Rattle.model.proofs.Handovers.{next_at}
use Rattle.invariant.proofs.Receiving.{next_slot_run}
use Rattle.invariant.proofs.Highest.{highest-applied}
use Rattle.broadcast.specs.State.{State}
use Rattle.broadcast.proofs.Theorem.{passed_over}
use Rattle.consistency.proofs.Bridge.{system, code_at, Related}
use Rattle.consistency.proofs.BridgeFacts.{applied_delivered, code_owner}

module _ {n : ℕ} {t : Table} {s : State} (g : Related n t s) where
  -- whoever has applied a message has applied those of its sender with no higher numbers
  pub earlier-applied : (r i j : ℕ) → Among n r → i < t.count → j < t.count → (message t i).sender ≡ (message t j).sender
      → (message t j).number.0 ≤ (message t i).number.0 → applied (at t r) i ≡ true → applied (at t r) j ≡ true
  earlier-applied r i j c hi hj e l a =
      let own = code_owner t g.formed j hj in
      sym (applied_delivered g r j c hj)
      ∙ passed_over (system n) s g.all (r - 1) (code_at t i) (code_at t j) (applied_delivered g r i c hi ∙ a)
      (code_owner t g.formed i hi ∙ ap (λ z. z - 1) e ∙ sym own)
      (rw own (omega (arith, l, g.numbered j hj, g.numbered i hi, ap (λ z. s.position (z - 1) (code_at t i)) e)))

  -- The receiver has applied a message of that sender with a number as high, and so every earlier one.
  pub passed_applied : (r o : ℕ) → HandoverAllowed t r o
      → leb (message t (next_at t r o)).number.0 (highest (at t r) (message t (next_at t r o)).sender) ≡ true
      → applied (at t r) (next_at t r o) ≡ true
  passed_applied r o a e =
      let w = g.formed in
      let j = next_at t r o in
      let h = next_slot_run t w r o a in
      let l = leb-true (message t j).number.0 (highest (at t r) (message t j).sender) e in
      let y = highest-applied t r (at t r) (w.controllers r a.receiver) (message t j).sender (w.senders j h) (omega (arith, l, (w.numbers j h).0)) in
      earlier-applied r y.slot j (omega (arith, a.receiver, g.size)) y.below h y.sender (omega (arith, l, y.number)) y.is_applied

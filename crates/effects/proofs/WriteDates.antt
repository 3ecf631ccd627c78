-- The date of a write: no register has one beyond the most messages of a run, and what the code reads off the registers is the next.
-- Assumes nothing.
use mathlib.Core.Path.{◌≡◌, ap, sym, ◌∙◌}
use mathlib.Core.Bool.{true}
use mathlib.Core.List.{List}
use Prim.Native.Nat.{ℕ, suc, ◌+◌, ◌-◌, min, ◌≤◌, ◌<◌}
use native.Mathlib.Omega.{arith}
use lib.ListN.{get_or}
use lib.Dec.{eqb, ltb}
use borrow.Author.Tests.{ltb-true, leb-true, eqb-true}
use Rattle.lists.proofs.Tests.{and_left, and_right, cond_true}
use Rattle.lists.proofs.Build.{get_d_tabulate}
use Rattle.model.specs.Tables.{Messages, capacity, register_count, write_kind, no_register, flagged, messages_of}
use Rattle.model.specs.Registers.{register_of, registers, date_of}
use Rattle.model.specs.Fair.{fair_register}
use Rattle.model.specs.WellFormed.{well_formed}
use Rattle.model.specs.declared.Payload.{Payload}
use Rattle.model.specs.declared.Register.{Register}
use Rattle.model.specs.declared.Table.{Table}
use Rattle.model.proofs.Tested.{facts}
use Rattle.model.proofs.Registers.{newest-held, held_date, message_date}
use Rattle.effects.specs.Conditions.{Dated}

pub formed_dated : (t : Table) → well_formed t ≡ true → Dated (messages_of t)
formed_dated t e s h = let w = facts t e in omega (arith, message_date t w s h, w.fitting)

-- a write has one of the registers
write-place : (p : Payload) → p.kind ≡ write_kind → fair_register p ≡ true → (0 < p.reg) × (p.reg ≤ register_count)
unfolding fair_register
write-place p k e =
    let f = rw k at e in
    (ltb-true 0 p.reg (and_left (ltb 0 p.reg) _ f), leb-true p.reg register_count (and_right (ltb 0 p.reg) _ f))

-- what is read at the register's index, which is bounded, and of its date, which is too
pub date_read : (M : Messages) (A : List ℕ) (p : Payload) (R : List Register) (i d : ℕ)
    → eqb p.kind write_kind ≡ true → R ≡ registers M A → i ≡ min (p.reg - 1) (register_count - 1) → d ≡ min (get_or R i no_register).stamp.date capacity
    → Dated M → fair_register p ≡ true → d + 1 ≡ date_of M A p
unfolding date_of registers
date_read M A p R i d w is ei ed dated e =
    let h = write-place p (eqb-true p.kind write_kind w) e in
    let q : suc i ≡ p.reg = omega (arith, ei, h.0, h.1) in
    let read : get_or R i no_register ≡ register_of M A p.reg
    = ap (λ (S : List Register). get_or S i no_register) is
    ∙ get_d_tabulate register_count (λ i. register_of M A (suc i)) no_register i (omega (arith, q, h.1))
    ∙ ap (register_of M A) q in
    let room : (register_of M A p.reg).stamp.date ≤ capacity
    = unfold register_of in (held_date capacity (newest-held M.slots (flagged A) p.reg M.count) dated) in
    omega (arith, ed, ap (λ (y : Register). y.stamp.date) read, room) ∙ sym (cond_true _ _ w)

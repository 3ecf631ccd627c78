-- `divide` gives each slot in the buffer to its end of the 64 bytes.
use Rattle.std.proofs.Common.{◌≡◌, true, leb, ap₂, sym, ◌∙◌, arith}
use borrow.Author.Tests.{le-leb, lt-leb}
use Rattle.model.specs.Tables.{in_buffer}
use Rattle.model.specs.Largest.{candidate}
use Rattle.delivery.proofs.Division.{divided_start, divided_candidate, divided_other}
use Rattle.delivery.proofs.divide.Goals as goal
use Rattle.delivery.proofs.divide.Goals.{then-m-mark_count, else-m-mark_count}

pub loop-s-init : goal.loop-s-init
loop-s-init c = divided_start _ _ _

-- the count of marks against the majority says whether the slot is a candidate
pub loop-s-preserved : goal.loop-s-preserved
loop-s-preserved c =
    let held : in_buffer c.args.pending.now c.loop-s.s ≡ true = sym c.is_held.ensures ∙ c.if-not-is_held.false in
    let counted : leb c.majority-m.result c.mark_count.result ≡ candidate c.args.n c.args.pending.now c.loop-s.s =
    ap₂ leb c.majority-m.ensures c.mark_count.ensures in
    elim c.if-m-mark_count.branch [
      | then-m-mark_count w ↦
          rw (w.slots-is, w.candidates-is, w.rest-is)
          (divided_candidate _ _ _ _ _ _ (omega arith) (omega arith) c.loop-s.invariant held (sym counted ∙ le-leb _ _ w.if-m-mark_count.true))
      | else-m-mark_count w ↦
          rw (w.slots-is, w.candidates-is, w.rest-is)
          (divided_other _ _ _ _ _ _ (omega arith) (omega arith) c.loop-s.invariant held (sym counted ∙ lt-leb _ _ w.if-m-mark_count.false))
    ]

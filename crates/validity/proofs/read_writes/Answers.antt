-- `read_writes` reads the sender of each write, one message in each turn; where there is no write, none is like another.
use Rattle.std.proofs.Common.{◌≡◌, length, sym, ◌∙◌, rules, arith}
use Rattle.std.proofs.Math.ListN.{length-set}
use Rattle.validity.proofs.DistinctNames.{run_bounded}
use Rattle.validity.proofs.WriteStamps.{none_wrote, other_wrote, write_wrote, no_writes}
use Rattle.validity.specs.Reads.{Wrote}
use Rattle.validity.proofs.read_writes.Goals as goal
use Rattle.validity.proofs.read_writes.Goals.{else-end-ne0-via-then-end-ne0+else-not-each_write, else-end-ne0-via-else-end-ne0}

pub loop-s-init : goal.loop-s-init
loop-s-init c = (search rules, none_wrote _)

pub loop-s-preserved-then-not-is : goal.loop-s-preserved-then-not-is
loop-s-preserved-then-not-is c =
    (c.loop-s.invariant.0, other_wrote _ _ _ _ (omega (arith, c.args.run.fits)) c.loop-s.invariant.1 (sym c.is.ensures ∙ c.if-not-is.true))

pub loop-s-preserved : goal.loop-s-preserved
loop-s-preserved c =
    (simp length-set c.loop-s.invariant.0, write_wrote _ _ _ _ (omega (arith, c.args.run.fits)) c.loop-s.invariant.1 c.loop-s.invariant.0 (sym c.is.ensures ∙ c.if-not-is.false))

pub returns : goal.returns
returns c =
    let k = length c.args.run.sent.now in
    let e : c.loop-s.s ≡ k = omega arith in
    let w : Wrote k c.args.run.sent.now c.loop-s.end c.loop-s.senders = rw e at c.loop-s.invariant.1 in (
      elim c.else-end-ne0.branch [
        | else-end-ne0-via-then-end-ne0+else-not-each_write b ↦ sym b.each_write.ensures ∙ b.if-not-each_write.false
        | else-end-ne0-via-else-end-ne0 b ↦ no_writes _ _ _ _ c.args.run.fits w (λ s h. (run_bounded c.args.run s h).low) b.if-end-ne0.false
      ],
      w,
    )

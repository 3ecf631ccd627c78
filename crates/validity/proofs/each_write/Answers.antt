-- `each_write` tests the writes of a run, each once: any other message is passed over, and a stamp that was taken ends the test.
use Rattle.std.proofs.Common.{◌≡◌, length, sym, ◌∙◌, arith}
use Rattle.validity.proofs.DistinctNames.{run_bounded}
use Rattle.validity.proofs.WriteStamps.{no_stamp, all_apart, other_read, stamp_read, stamp_twice, stamp_small}
use Rattle.validity.proofs.each_write.Goals as goal

pub loop-m-init : goal.loop-m-init
loop-m-init c = no_stamp _

pub loop-m-preserved-then-not-is : goal.loop-m-preserved-then-not-is
loop-m-preserved-then-not-is c =
    other_read _ _ _ c.loop-m.invariant (run_bounded c.args.run _ c.loop-m-test.true) (sym c.is.ensures ∙ c.if-not-is.true)

pub bounds-stamps-code : goal.bounds-stamps-code
bounds-stamps-code c = stamp_small _ (run_bounded c.args.run _ c.loop-m-test.true)

pub bounds-stamps-code-in-loop-m : goal.bounds-stamps-code-in-loop-m
bounds-stamps-code-in-loop-m c = stamp_small _ (run_bounded c.args.run _ c.loop-m-test.true)

pub returns-then-stamps-code : goal.returns-then-stamps-code
returns-then-stamps-code c =
    stamp_twice _ _ _ c.loop-m.invariant (run_bounded c.args.run _ c.loop-m-test.true) (sym c.is.ensures ∙ c.if-not-is.false) _ c.loop-m-test.true c.if-stamps-code.true

pub loop-m-preserved : goal.loop-m-preserved
loop-m-preserved c =
    stamp_read _ _ _ c.loop-m.invariant (run_bounded c.args.run _ c.loop-m-test.true) (sym c.is.ensures ∙ c.if-not-is.false) c.if-stamps-code.false

pub returns : goal.returns
returns c = let e : c.loop-m.m-index ≡ length c.args.run.sent.now = omega arith in all_apart _ _ _ (rw e at c.loop-m.invariant)

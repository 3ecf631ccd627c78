-- `good_messages` tests the messages of a run, each once: a bad one ends the test, and so does a name that was taken.
use Rattle.std.proofs.Common.{◌≡◌, length, sym, arith}
use Rattle.validity.proofs.DistinctNames.{good_bounded, code_small, no_message_lem, bad_message, all_read, message_read, name-twice}
use Rattle.validity.proofs.good_messages.Goals as goal

pub loop-m-init : goal.loop-m-init
loop-m-init c = no_message_lem _ _ _ _

pub returns-then-not-good_message : goal.returns-then-not-good_message
returns-then-not-good_message c = bad_message _ _ _ _ _ c.loop-m-test.true (sym c.if-not-good_message.ensures)

pub bounds-seen-code : goal.bounds-seen-code
bounds-seen-code c = code_small _ (good_bounded _ _ _ _ c.requires.0 c.requires.1 (sym c.if-not-good_message.ensures))

pub bounds-seen-code-in-loop-m : goal.bounds-seen-code-in-loop-m
bounds-seen-code-in-loop-m c = code_small _ (good_bounded _ _ _ _ c.requires.0 c.requires.1 (sym c.if-not-good_message.ensures))

pub returns-then-seen-code : goal.returns-then-seen-code
returns-then-seen-code c =
    name-twice _ _ _ _ c.requires.0 c.requires.1 _ _ c.loop-m.invariant (sym c.if-not-good_message.ensures) c.loop-m-test.true c.if-seen-code.true

pub loop-m-preserved : goal.loop-m-preserved
loop-m-preserved c =
    message_read _ _ _ _ c.requires.0 c.requires.1 _ _ c.loop-m.invariant (sym c.if-not-good_message.ensures) c.if-seen-code.false

pub returns : goal.returns
returns c = let e : c.loop-m.m-index ≡ length c.args.sent.now = omega arith in all_read _ _ _ _ _ (rw e at c.loop-m.invariant)

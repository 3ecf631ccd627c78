-- `each_controller` tests controllers 1 to n: a bad one ends the test.
use Rattle.std.proofs.Common.{true, sym, ◌∙◌}
use Rattle.lists.proofs.Loops.{all_start, all_turn}
use Rattle.lists.proofs.Clipped.{all_failed}
use Rattle.validity.proofs.ControllerTests.{reached, controller_is}
use Rattle.validity.proofs.each_controller.Goals as goal

pub loop-i-init : goal.loop-i-init
loop-i-init c = all_start _

pub returns-then-not-places-good_controller : goal.returns-then-not-places-good_controller
returns-then-not-places-good_controller c =
    all_failed _ _ c.loop-i.i (reached _ _ _ c.loop-i-test.true)
    (sym (controller_is _ _ _ _ _ _ c.args.run.few c.args.run.fits _ _ _ _ c.loop-i-test.true c.greatest_numbers-sent.ensures c.good_places-places.ensures c.good_controller.ensures)
    ∙ c.if-not-places-good_controller.true)

pub loop-i-preserved : goal.loop-i-preserved
loop-i-preserved c =
    all_turn _ _ true true c.loop-i.invariant
    (sym c.if-not-places-good_controller.false
    ∙ controller_is _ _ _ _ _ _ c.args.run.few c.args.run.fits _ _ _ _ c.loop-i-test.true c.greatest_numbers-sent.ensures c.good_places-places.ensures c.good_controller.ensures)

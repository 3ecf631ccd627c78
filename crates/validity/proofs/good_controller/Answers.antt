-- `good_controller` tests one controller: a log or a buffer that is not good ends the test, and then all that was read of it is joined.
use Rattle.validity.proofs.ControllerTests.{bad_log, bad_buffer, asked_is}
use Rattle.validity.proofs.good_controller.Goals as goal

pub returns-in_default : goal.returns-in_default
returns-in_default c = bad_log _ _ _ _ _ _ _ _ c.in_default.ensures

pub returns-in_default-read_buffer : goal.returns-in_default-read_buffer
returns-in_default-read_buffer c =
    bad_buffer _ _ _ _ _ _ _ _ c.args.run.few c.args.run.fits c.in-Some.ensures.0 c.in_default-read_buffer.ensures

pub returns : goal.returns
returns c =
    let log = c.in-Some.ensures in
    let buffer = c.in-Some-read_buffer.ensures in
    asked_is _ _ _ _ _ _ _ _ c.args.run.few c.args.run.fits log.0 _ _ buffer.1 log.1 _ c.greatest_numbers-greatest.ensures _ _ _ _
    buffer.0 c.is_running-running.ensures c.good_slots-slots.ensures c.good_highest.ensures c.args.writes.now.inside c.own_kept-kept.ensures

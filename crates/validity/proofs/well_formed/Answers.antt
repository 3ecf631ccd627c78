-- `well_formed` is the test of question 4, on every table: what fails first ends it, and the controllers are tested last.
use Rattle.std.proofs.Common.{◌≡◌, length, take, sym, ap, arith}
use Rattle.std.proofs.Math.ListN.{length-take}
use mathlib.Core.Bool.{false, not}
use Rattle.validity.proofs.ControllerTests.{in_bounds, out_of_range, fits, bad_messages, bad_writes, tested}
use Rattle.validity.proofs.well_formed.Goals as goal

pub returns-then-not-known-some : goal.returns-then-not-known-some
returns-then-not-known-some c = out_of_range _ (ap not (rw c.known.ensures at c.if-not-known-some.true))

pub returns-then-not-good_messages : goal.returns-then-not-good_messages
returns-then-not-good_messages c =
    let t = c.args.t.now in
    let r : not (in_bounds t) ≡ false = ap not (rw c.known.ensures at c.if-not-known-some.false) in
    let size : length (take t.count t.messages) ≡ t.count = omega (arith, length-take t.count t.messages, fits t r) in
    bad_messages t r _ size (sym c.if-not-good_messages.ensures)

pub returns-in-None : goal.returns-in-None
returns-in-None c =
    let t = c.args.t.now in
    let r : not (in_bounds t) ≡ false = ap not (rw c.known.ensures at c.if-not-known-some.false) in
    let size : length (take t.count t.messages) ≡ t.count = omega (arith, length-take t.count t.messages, fits t r) in
    bad_writes t r _ size (sym c.if-not-good_messages.ensures) c.in-None.ensures

pub returns-in-Some : goal.returns-in-Some
returns-in-Some c =
    let t = c.args.t.now in
    let r : not (in_bounds t) ≡ false = ap not (rw c.known.ensures at c.if-not-known-some.false) in
    let size : length (take t.count t.messages) ≡ t.count = omega (arith, length-take t.count t.messages, fits t r) in
    tested t r _ size (sym c.if-not-good_messages.ensures) _ _ _ c.in-Some.ensures.0 c.in-Some.ensures.1 c.each_controller.ensures

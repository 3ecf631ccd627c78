-- `event` leaves and hands back what the by-value event call answers. Where no byte is used, the table that is not stored is the one
-- that was answered.
use Rattle.std.proofs.Common.{◌≡◌, ◌∙◌, arith}
use Rattle.lent.proofs.Outcomes.{unused_same, called}
use Rattle.lent.proofs.event.Goals as goal
use Rattle.lent.proofs.event.Goals.{then-s-gt0, else-s-gt0}

pub returns : goal.returns
returns c =
    let whole = called c.args.t.now c.args.bytes.now c.args.scratch.now c.event-s.result c.event-s.new.scratch _ c.event-s.ensures c.rest.ensures in
    let same : c.if-s-gt0.t ≡ c.event-s.result.table =
    elim c.if-s-gt0.branch [
      | then-s-gt0 w ↦ w.t-is
      | else-s-gt0 w ↦ w.t-is ∙ unused_same c.args.t.now c.args.bytes.now c.args.scratch.now c.event-s.result c.event-s.new.scratch c.event-s.ensures (omega (arith, w.if-s-gt0.false))
    ] in
    rw same whole

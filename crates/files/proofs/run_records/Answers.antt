-- A record more keeps the loop's invariant, and a refusal ends the run.
use Rattle.std.proofs.Common.{rules}
use Rattle.std.proofs.lemmas.Result.{err_from_is_err_and}
use Rattle.files.proofs.RecordLoop.{run_begins, run_ends, run_stops, run_goes_on}
use Rattle.files.proofs.run_records.Goals as goal

pub loop-left-init : goal.loop-left-init
loop-left-init c = run_begins _ _ _ c.requires.asked _ c.requires.opened _ c.rest-left.ensures _ c.requires.begun

pub returns-in_err-used : goal.returns-in_err-used
returns-in_err-used c =
    let p = err_from_is_err_and c.from_residual.result c.from_residual.ensures.1 in
    rw (p.1, p.2) (run_stops _ _ _ _ _ _ _ _ c.loop-left.invariant (search rules) _ _ _ _ _ c.in_err-used.ensures)

pub loop-left-preserved : goal.loop-left-preserved
loop-left-preserved c =
    run_goes_on _ _ _ _ _ _ _ _ c.loop-left.invariant (search rules) _ _ _ _ _ c.in_ok-used.ensures _ c.rest-left-in-loop-left.ensures

pub returns : goal.returns
returns c = run_ends _ _ _ _ _ _ _ _ c.loop-left.invariant (search rules)

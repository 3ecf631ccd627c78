-- `turn` carries out one record of a run, and lists it where its line fits.
use Rattle.std.proofs.Common.{arith}
use Rattle.std.proofs.lemmas.Result.{err_from_is_err_and}
use Rattle.files.proofs.OneRecord.{refused_read, asked_read, accepts, turn_refused, turn_read, event_answers, turn_full, written_within, turn_listed}
use Rattle.files.proofs.turn.Goals.{in-Act+in_ok-line-in-Act, in-Read}
use Rattle.files.proofs.turn.Goals as goal

pub returns-in_err-found : goal.returns-in_err-found
returns-in_err-found c =
    let p = err_from_is_err_and c.from_residual.result c.from_residual.ensures.1 in
    rw (p.1, p.2) (turn_refused _ _ _ _ _ c.requires _ (refused_read _ _ _ _ c.in_err-found.ensures.asked))

pub returns-in_err-step_refusal : goal.returns-in_err-step_refusal
returns-in_err-step_refusal c =
    let p = err_from_is_err_and c.from_residual-in_err-step_refusal.result c.from_residual-in_err-step_refusal.ensures.1 in
    let r = c.in_ok-found.ensures in
    rw (p.1, p.2) (turn_refused _ _ _ _ _ c.requires _ (asked_read _ _ _ r.asked _ r.found _ c.in_err-step_refusal.ensures))

pub list_line-requires-clause-answered : goal.list_line-requires-clause-answered
list_line-requires-clause-answered c =
    let r = c.in_ok-found.ensures in
    let a = accepts _ _ _ r.asked _ r.found c.in_ok-step_refusal.ensures in
    event_answers _ _ _ _ _ c.requires _ a _ c.in-Act.is _ c.at_hand-p.ensures _ _ c.carry_out-done.ensures

pub returns-in_err-line-in-Act : goal.returns-in_err-line-in-Act
returns-in_err-line-in-Act c =
    let p = err_from_is_err_and c.from_residual-in_err-line-in-Act.result c.from_residual-in_err-line-in-Act.ensures.1 in
    let r = c.in_ok-found.ensures in
    let a = accepts _ _ _ r.asked _ r.found c.in_ok-step_refusal.ensures in
    rw (p.1, p.2)
    (turn_full _ _ _ _ _ c.requires _ a _ c.in-Act.is _ c.at_hand-p.ensures _ _ c.carry_out-done.ensures _ _ c.in_err-line-in-Act.ensures)

pub overflow_add-cursor-in-Act : goal.overflow_add-cursor-in-Act
overflow_add-cursor-in-Act c =
    let r = c.in_ok-found.ensures in
    let a = accepts _ _ _ r.asked _ r.found c.in_ok-step_refusal.ensures in
    let h = written_within _ _ _ _ _ c.requires _ a _ c.in-Act.is _ c.at_hand-p.ensures _ _ c.carry_out-done.ensures _ _ c.in_ok-line-in-Act.ensures in
    omega (arith, h)

pub returns : goal.returns
returns c =
    let r = c.in_ok-found.ensures in
    let a = accepts _ _ _ r.asked _ r.found c.in_ok-step_refusal.ensures in
    elim c.match-found.branch [
      | in-Act+in_ok-line-in-Act w ↦
          rw (w.cursor-is, w.t-is, w.listing-is, w.scratch-is)
          (turn_listed _ _ _ _ _ c.requires _ a _ w.in-Act.is _ w.at_hand-p.ensures _ _ w.carry_out-done.ensures _ _ w.in_ok-line-in-Act.ensures _ w.store.ensures)
      | in-Read w ↦ rw (w.cursor-is, w.t-is, w.listing-is, w.scratch-is) (turn_read _ _ _ _ _ c.requires _ a _ w.in-Read.is _ w.clear.ensures)
    ]

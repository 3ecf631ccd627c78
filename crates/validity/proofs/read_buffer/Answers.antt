-- `read_buffer` reads a buffer once, one slot in each turn: an entry that is not good ends the reading.
use Rattle.std.proofs.Common.{false, sym, ◌∙◌, refl, arith}
use Rattle.lists.proofs.Loops.{all_start, all_turn, all_end}
use Rattle.lists.proofs.Clipped.{all_failed}
use Rattle.lists.proofs.Build.{over_none, over_more, over_end, over-tabulate}
use Rattle.validity.specs.Reads.{good_held}
use Rattle.validity.proofs.read_buffer.Goals as goal

pub loop-s-init : goal.loop-s-init
loop-s-init c = (sym (over_none _ _), all_start _)

pub returns-then-not-good_entry : goal.returns-then-not-good_entry
unfolding good_held
returns-then-not-good_entry c = sym (all_failed _ _ _ (omega arith) (sym c.if-not-good_entry.ensures))

pub loop-s-preserved : goal.loop-s-preserved
loop-s-preserved c =
    (over_more _ _ _ _ _ c.loop-s.invariant.0 c.is_held.ensures, all_turn _ _ _ _ c.loop-s.invariant.1 c.if-not-good_entry.ensures)

pub returns : goal.returns
unfolding good_held
returns c =
    (sym (all_end _ _ _ _ (omega arith) c.loop-s.invariant.1), over_end _ _ _ _ _ (omega arith) c.loop-s.invariant.0 ∙ over-tabulate _ _ _ false refl)

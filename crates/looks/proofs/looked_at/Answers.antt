-- The index of the controller that is looked at is one of the array's.
use Rattle.std.proofs.Common.{◌≤◌, ◌<◌, ◌-◌, sym, ◌∙◌, arith}
use Rattle.model.specs.Tables.{seats}
use Rattle.looks.proofs.LookAnswers.{seated}
use Rattle.looks.proofs.looked_at.Goals as goal

pub overflow_sub-result : goal.overflow_sub-result
overflow_sub-result c = (seated _ _ (sym c.well_formed-2.ensures ∙ c.if-not-well_formed.false) (sym c.is_among.ensures ∙ c.if-not-is_among.false)).0

pub offset_bounds-t-c : goal.offset_bounds-t-c
offset_bounds-t-c c =
    let s : (1 ≤ c.args.c) × (c.args.c - 1 < seats) = seated _ _ (sym c.well_formed-2.ensures ∙ c.if-not-well_formed.false) (sym c.is_among.ensures ∙ c.if-not-is_among.false) in
    omega (arith, s.1)

pub bounds-t-c : goal.bounds-t-c
bounds-t-c c = (seated _ _ (sym c.well_formed-2.ensures ∙ c.if-not-well_formed.false) (sym c.is_among.ensures ∙ c.if-not-is_among.false)).1

-- `panel` is what controller c shows; past the last, nothing.
use Rattle.std.proofs.Common.{rules, ◌∙◌}
use Rattle.totals.proofs.ControllerPanel.{panel_past, panel_at}
use Rattle.totals.proofs.panel.Goals as goal

pub returns-in-Some : goal.returns-in-Some
returns-in-Some c = c.shown.ensures ∙ rw c.sent.ensures (panel_at c.args.t.now c.args.c c.in-Some.x.now (search rules))

pub returns-in-None : goal.returns-in-None
returns-in-None c = c.zero.ensures ∙ panel_past c.args.t.now c.args.c (search rules)

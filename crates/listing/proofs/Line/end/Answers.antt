-- `end` ends a line, and writes it where it fits.
use Rattle.std.proofs.Common.{◌≡◌, [], ◌∷◌, ◌++◌, take, ◌∙◌}
use Rattle.listing.proofs.Lines.{line_written, line_refused}
use Rattle.listing.proofs.Line.end.Goals as goal

pub returns-then-tail-text : goal.returns-then-tail-text
returns-then-tail-text c =
    let text : take c.self.inside.size c.self.inside.bytes ≡ c.args.self.now ++ (10 ∷ []) = c.self.view_is ∙ c.push_text.ensures in
    rw (← text) (line_refused _ _ c.if-tail-text.true)

pub returns : goal.returns
returns c =
    let text : take c.self.inside.size c.self.inside.bytes ≡ c.args.self.now ++ (10 ∷ []) = c.self.view_is ∙ c.push_text.ensures in
    rw (← text, c.copy_from_slice.ensures.after) (line_written _ _ c.if-tail-text.false)

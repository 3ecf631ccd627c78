-- `list_line` writes the line of an event, where it has one.
use Rattle.std.proofs.Common.{◌≡◌, ◌<◌, ℕ, List, length, take, min, arith, sym, ap, ◌∙◌}
use Rattle.std.proofs.lemmas.List.{length-take, take_all, take_min}
use Rattle.model.specs.Tables.{capacity}
use Rattle.model.specs.Runs.{line_of}
use Rattle.model.specs.declared.Name.{Name}
use Rattle.files.proofs.OneRecord.{line_some, no_line_lem}
use Rattle.files.proofs.list_line.Goals as goal

pub returns-then-size-eq0 : goal.returns-then-size-eq0
unfolding line_of
returns-then-size-eq0 c =
    let e : c.args.done.now.answer.size ≡ 0 = omega (arith, c.min-size.ensures, c.if-size-eq0.true) in
    rw e (no_line_lem _)

-- the names that the code lists
named : (n k : ℕ) (xs : List Name) → length xs ≡ capacity → k ≡ min n capacity → take capacity (take k xs) ≡ take n xs
named n k xs l e =
    take_all capacity (take k xs) (omega (arith, length-take k xs, l))
    ∙ ap (λ i. take i xs) (e ∙ ap (min n) (sym l)) ∙ take_min n xs

pub returns : goal.returns
returns c =
    let names = c.args.done.now.answer.names in
    let some : 0 < length (take c.args.done.now.answer.size names) =
    omega (arith, length-take c.args.done.now.answer.size names, c.min-size.ensures, c.if-size-eq0.false, c.requires.whole) in
    rw (← line_some _ _ _ _ some, ← named _ _ _ c.requires.whole c.min-size.ensures, ← c.subject.ensures, ← c.listed_sums.ensures) c.put_line.ensures

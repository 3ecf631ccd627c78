-- `split_file` finds the messages sent and the books.
use Rattle.std.proofs.Common.{inl, inr}
use Rattle.books.proofs.FileQuestions.{head_short, head_long, head_other, head_split}
use Rattle.books.proofs.layout.split_file.Goals as goal

pub returns-in_default : goal.returns-in_default
returns-in_default c = head_short c.args.bytes.now c.in_default.len_below

pub returns-then-version-ne-VERSION : goal.returns-then-version-ne-VERSION
returns-then-version-ne-VERSION c = elim c.then-version-ne-VERSION.either [ inl f ↦ head_other c.args.bytes.now f | inr h ↦ head_long c.args.bytes.now h.1 ]

pub returns : goal.returns
returns c =
    head_split c.args.bytes.now c.if-bytes-gt-LONGEST_FILE.false c.if-version-ne-VERSION.false c.in-len3-up.len_at_least c.split_at_checked.result
    (rw c.size.ensures at c.split_at_checked.ensures.cases)

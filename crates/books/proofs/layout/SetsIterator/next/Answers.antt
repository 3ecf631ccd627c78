-- The next set.
use Rattle.books.proofs.Laid.{sets_end}
use Rattle.books.proofs.layout.SetsIterator.next.Goals as goal

pub returns-in_err-bytes-clause-steps : goal.returns-in_err-bytes-clause-steps
returns-in_err-bytes-clause-steps c =
    let end = sets_end c.args.self.now.bytes.now c.args.self.now.laid c.in_err-bytes.ensures in
    rw c.from_residual.ensures (end, end)

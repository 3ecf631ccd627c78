-- The sum of the first n read positions, which is far below the greatest number.
use Rattle.std.proofs.Common.{take, ◌∙◌, arith}
use Rattle.std.proofs.lemmas.Iterator.{YieldsList-from_slice}
use Rattle.std.proofs.lemmas.Iterator.Consumers.{fits_from_yields_list, sum_from_yields_List}
use Rattle.supervisor.proofs.ActCounts.{read_sum, reads_few}
use Rattle.supervisor.proofs.reads_by.Goals as goal

pub sum-requires-clause-fits : goal.sum-requires-clause-fits
sum-requires-clause-fits c =
    let e = read_sum c.args.n c.args.read.now c.requires.0 c.told-read in
    let l = reads_few c.args.n c.args.read.now c.requires.0 c.requires.1 in
    fits_from_yields_list _ _ (YieldsList-from_slice (take c.args.n c.args.read.now) cc) (omega (arith, e, l))

pub returns : goal.returns
returns c =
    sum_from_yields_List _ _ c.sum.ensures.ran (YieldsList-from_slice (take c.args.n c.args.read.now) cc)
    ∙ read_sum c.args.n c.args.read.now c.requires.0 c.told-read

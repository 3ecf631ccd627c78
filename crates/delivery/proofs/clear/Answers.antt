-- `clear` zeroes the first 64 bytes, or all of fewer.
use Rattle.std.proofs.Common.{arith}
use Rattle.std.proofs.lemmas.List.{length-take-le}
use Rattle.delivery.proofs.ApplyAnswer.{cleared-all}
use Rattle.delivery.proofs.clear.Goals as goal

pub returns : goal.returns
returns c = cleared-all _ _ _ _ c.min-end.ensures (length-take-le _ _ (omega arith)) (c.fill.ensures.after (λ y e. e))

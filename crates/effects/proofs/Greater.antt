-- The greater of two message numbers, as their derived order finds it. Assumes nothing.
use Rattle.std.proofs.Common.{◌≡◌, refl, ap, arith, max, Bool, true, false, cond, eqb, ltb}
use Rattle.std.specs.Ordering.{is_lt, ord_max}
use Rattle.std.specs.declared.cmp.Ordering.TheVariants.{Less, Equal, Greater}
use Rattle.std.proofs.lemmas.Bool.{ltb-true, ltb-false}
use Rattle.model.specs.Tables.{message_number}
use Rattle.model.specs.declared.MessageNumber.{MessageNumber}
use Rattle.model.specs.contracts.MessageNumberOrd as order

pub greater_number : (a b : MessageNumber) → ord_max (order.TheImpl.cmp-value).it a b ≡ message_number (max a.0 b.0)
greater_number a b = go (ltb b.0 a.0) (eqb b.0 a.0) refl
  where
    go : (l e : Bool) → ltb b.0 a.0 ≡ l → cond (is_lt (cond l Less (cond e Equal Greater))) a b ≡ message_number (max a.0 b.0)
    go true e q = ap message_number (omega (arith, ltb-true b.0 a.0 q))
    go false true q = ap message_number (omega (arith, ltb-false b.0 a.0 q))
    go false false q = ap message_number (omega (arith, ltb-false b.0 a.0 q))

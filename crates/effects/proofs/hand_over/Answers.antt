-- `hand_over` reads an entry, and names and applies the largest set.
use Rattle.std.proofs.Common.{◌≡◌, ◌∙◌, refl, Bool, true, false, cond}
use mir.Val.{bool_byte}
use Rattle.model.proofs.Owned.{controller_sized}
use Rattle.effects.proofs.HandoverEffect.{handed_over_lem, handed_none}
use Rattle.effects.proofs.hand_over.Goals as goal

-- the number of a flag, which `u8::from` gives
flag_number : (f : Bool) → bool_byte f ≡ cond f 1 0
flag_number true = refl
flag_number false = refl

pub returns-then-all-eq0 : goal.returns-then-all-eq0
returns-then-all-eq0 c = record {
  effected = λ t en em q h.
      handed_none t _ en _ em _ _ _ _ q _ (controller_sized _ _ c.received-c.type_inv) c.received-c.ensures _ _ h _ c.apply-members.ensures
      _ c.names_of-all.ensures c.if-all-eq0.true _ c.no_set.ensures;
}

pub returns : goal.returns
returns c = record {
  effected = λ t en em q h.
      handed_over_lem t _ en _ em _ _ _ _ q _ (controller_sized _ _ c.received-c.type_inv) c.received-c.ensures _ _ h _ c.apply-members.ensures
      _ c.names_of-all.ensures _ c.finishes-finished.ensures _ c.deliver.ensures _ c.sync_answer-sums.ensures _ (c.from.ensures ∙ flag_number _);
}

-- What the by-value event call answers is what the lent one leaves. Assumes nothing.
use mathlib.Core.Path.{◌≡◌, refl, ap, ◌∙◌}
use mathlib.Core.List.{List}
use Prim.Native.Nat.{ℕ, ◌≤◌}
use native.Mathlib.Omega.{arith}
use lib.ListN.{length, drop}
use Rattle.model.specs.Records.{after_record, decode}
use Rattle.model.specs.Calls.{Outcome, accepted, refused, event}
use Rattle.model.specs.declared.Table.{Table}
use Rattle.model.proofs.Steps.{answering-accepted, settled_case}
use Rattle.events.specs.Stepped.{stepped_of, Steps}
use Rattle.events.specs.declared.Stepped.{Stepped}
use Rattle.events.proofs.UnreadRest.{rest_handed_back}
use Rattle.lent.specs.Called.{Called}

module _ (t : Table) (s w : List ℕ) where
  -- an accepted record uses a byte, so where none is used the table is answered as it was lent
  pub unused_same : (r : Stepped) (z : List ℕ) → Steps t s w r z → r.used ≤ 0 → t ≡ r.table
  unfolding event stepped_of accepted refused
  unused_same r z e = rw e.outcome (settled_case (λ (o : Outcome). (stepped_of o s).used ≤ 0 → t ≡ o.table) t s _
      (λ _. rw (answering-accepted t (decode t.version s) (after_record s)) (λ u. absurd (omega (arith, u)))) (λ _ _. refl))

  pub called : (r : Stepped) (z p : List ℕ) → Steps t s w r z → p ≡ drop r.used s → Called t s w r.table r.answer p z
  unfolding stepped_of
  called r z p e ep = record {
    table_is = ap (λ (x : Stepped). x.table) e.outcome;
    answer_is = ap (λ (x : Stepped). x.answer) e.outcome;
    rest_is = ep ∙ (ap (λ (x : Stepped). drop x.used s) e.outcome ∙ rest_handed_back t s (length w));
    scratch_is = e.clear;
  }

-- One record of a run: what an accepted verdict says, and what the run then is. Assumes nothing.
use mathlib.Core.Path.{◌≡◌, refl, sym, ◌∙◌}
use mathlib.Core.Logic.{◌≢◌, ◌⊎◌, inl, inr}
use mathlib.Core.Bool.{true, false, cond}
use mathlib.Core.List.{List, [], ◌∷◌, ◌++◌}
use Prim.Native.Nat.{ℕ, zero, suc, ◌+◌, ◌-◌, ◌≤◌, ◌<◌}
use native.Mathlib.Omega.{arith}
use lib.ListN.{length, drop}
use lib.Seq.{drop-length}
use lib.Dec.{eqb}
use borrow.Author.Tests.{eqb-true, eqb-false, ne_eqb}
use Rattle.lists.proofs.Tests.{cond_case, decided}
use Rattle.model.specs.Records.{size, after_record}
use Rattle.model.specs.Calls.{step}
use Rattle.model.specs.Runs.{Progress, line_at, verdict, advance, records}
use Rattle.model.proofs.Allowed.{line_asked}
use Rattle.model.proofs.Steps.{accepted_rest, accepted_shorter}

module _ (p : Progress) (s : List ℕ) (room space : ℕ) where
  -- the run with one event more
  abbrev pub gone : Progress
  gone = record {
    refusal = 0;
    events = p.events + 1;
    lines = p.lines ++ line_at p s room;
    table = (step p.table s room).table;
  }

  -- the run that its verdict ends
  abbrev pub ended : Progress
  ended = record { refusal = verdict p s room space; events = p.events; lines = p.lines; table = p.table }

  -- where the verdict is 0 the record's event is accepted, and its line fits
  pub verdict_passed : verdict p s room space ≡ 0 → ((step p.table s room).answer.refusal ≡ 0) × (length (line_at p s room) ≤ space - length p.lines)
  unfolding verdict
  verdict_passed = line_asked (step p.table s room).answer.refusal (length (line_at p s room)) (space - length p.lines)

  pub advance_case : (P : Progress → Type 0) → (verdict p s room space ≡ 0 → P gone) → (verdict p s room space ≢ 0 → P ended) → P (advance p s room space)
  unfolding advance
  advance_case P f g =
      cond_case P (eqb (verdict p s room space) 0) gone ended (λ e. f (eqb-true _ 0 e)) (λ e. g (eqb-false _ 0 e))

  pub advance-verdict : (advance p s room space).refusal ≡ verdict p s room space
  advance-verdict = advance_case (λ q. q.refusal ≡ verdict p s room space) (λ e. sym e) (λ _. refl)

  pub advance-gone : verdict p s room space ≡ 0 → advance p s room space ≡ gone
  advance-gone e = advance_case (λ q. q ≡ gone) (λ _. refl) (λ n. absurd (n e))

  pub advance-ended : verdict p s room space ≢ 0 → advance p s room space ≡ ended
  advance-ended n = advance_case (λ q. q ≡ ended) (λ e. absurd (n e)) (λ _. refl)

-- a run goes on after an accepted record, and a refusal ends it
pub records_on : (f : ℕ) (p : Progress) (b : ℕ) (s : List ℕ) (room space : ℕ) → verdict p (b ∷ s) room space ≡ 0
    → records (suc f) p (b ∷ s) room space ≡ records f (gone p (b ∷ s) room space) (after_record (b ∷ s)) room space
unfolding records
records_on f p b s room space e = rw (advance-gone p (b ∷ s) room space e)

pub records_end : (f : ℕ) (p : Progress) (b : ℕ) (s : List ℕ) (room space : ℕ) → verdict p (b ∷ s) room space ≢ 0
    → records (suc f) p (b ∷ s) room space ≡ ended p (b ∷ s) room space
unfolding records
records_end f p b s room space n =
    rw (advance-ended p (b ∷ s) room space n, ne_eqb (verdict p (b ∷ s) room space) 0 n)

-- an accepted record leaves fewer bytes
pub after_shorter : (p : Progress) (s : List ℕ) (room space : ℕ) → verdict p s room space ≡ 0 → length (after_record s) < length s
after_shorter p s room space e =
    let z = (verdict_passed p s room space e).0 in
    rw (accepted_rest p.table s room z) at (accepted_shorter p.table s room z)

pub records-none : (f : ℕ) (p : Progress) (room space : ℕ) → records f p [] room space ≡ p
unfolding records
records-none zero p room space = refl
records-none (suc f) p room space = refl

-- A run never stops for want of fuel: with as much as there are bytes, more makes no difference.
pub fuel_suffices : (f g : ℕ) (p : Progress) (s : List ℕ) (room space : ℕ) → length s ≤ f → length s ≤ g
    → records f p s room space ≡ records g p s room space
unfolding records
fuel_suffices zero g p [] room space h k = sym (records-none g p room space)
fuel_suffices zero g p (b ∷ s) room space h k = absurd (omega arith)
fuel_suffices (suc f) zero p [] room space h k = refl
fuel_suffices (suc f) zero p (b ∷ s) room space h k = absurd (omega arith)
fuel_suffices (suc f) (suc g) p [] room space h k = refl
fuel_suffices (suc f) (suc g) p (b ∷ s) room space h k =
    go (decided (eqb (verdict p (b ∷ s) room space) 0))
    (λ l. fuel_suffices f g (gone p (b ∷ s) room space) (after_record (b ∷ s)) room space (omega arith) (omega arith))
  where
    go : (eqb (verdict p (b ∷ s) room space) 0 ≡ true) ⊎ (eqb (verdict p (b ∷ s) room space) 0 ≡ false)
        → (length (after_record (b ∷ s)) < length (b ∷ s) → records f (gone p (b ∷ s) room space) (after_record (b ∷ s)) room space ≡ records g (gone p (b ∷ s) room space) (after_record (b ∷ s)) room space)
        → records (suc f) p (b ∷ s) room space ≡ records (suc g) p (b ∷ s) room space
    go (inl q) onward =
        let e = eqb-true (verdict p (b ∷ s) room space) 0 q in
        records_on f p b s room space e ∙ (onward (after_shorter p (b ∷ s) room space e) ∙ sym (records_on g p b s room space e))
    go (inr q) onward =
        let n = eqb-false (verdict p (b ∷ s) room space) 0 q in
        records_end f p b s room space n ∙ sym (records_end g p b s room space n)

left_after : (s : List ℕ) → drop (size s + 1) s ≡ after_record s
unfolding after_record
left_after s = refl

-- What is left after a record: the bytes after it, or none where it is refused. From there the run goes on as it would have gone.
pub records_turn : (p : Progress) (s : List ℕ) (room space : ℕ) → 0 < length s
    → (l : List ℕ) → l ≡ drop (cond (eqb (advance p s room space).refusal 0) (size s + 1) (length s)) s
    → records (length s) p s room space ≡ records (length l) (advance p s room space) l room space
records_turn p [] room space h l e = absurd (omega arith)
records_turn p (b ∷ s) room space h l e = go (decided (eqb (verdict p (b ∷ s) room space) 0))
  where
    went : verdict p (b ∷ s) room space ≡ 0 → l ≡ after_record (b ∷ s)
        → records (suc (length s)) p (b ∷ s) room space ≡ records (length l) (advance p (b ∷ s) room space) l room space
    went z q =
        let less = after_shorter p (b ∷ s) room space z in
        rw (q, advance-gone p (b ∷ s) room space z)
        (records_on (length s) p b s room space z
        ∙ fuel_suffices (length s) (length (after_record (b ∷ s))) (gone p (b ∷ s) room space) (after_record (b ∷ s)) room space (omega arith) (omega arith))

    stayed : verdict p (b ∷ s) room space ≢ 0 → l ≡ []
        → records (suc (length s)) p (b ∷ s) room space ≡ records (length l) (advance p (b ∷ s) room space) l room space
    stayed n q =
        rw (q, advance-ended p (b ∷ s) room space n)
        (records_end (length s) p b s room space n ∙ sym (records-none 0 (ended p (b ∷ s) room space) room space))

    go : (eqb (verdict p (b ∷ s) room space) 0 ≡ true) ⊎ (eqb (verdict p (b ∷ s) room space) 0 ≡ false)
        → records (suc (length s)) p (b ∷ s) room space ≡ records (length l) (advance p (b ∷ s) room space) l room space
    go (inl q) = went (eqb-true _ 0 q) (e ∙ rw (advance-verdict p (b ∷ s) room space, q) (left_after (b ∷ s)))
    go (inr q) = stayed (eqb-false _ 0 q) (e ∙ rw (advance-verdict p (b ∷ s) room space, q) (drop-length (b ∷ s)))

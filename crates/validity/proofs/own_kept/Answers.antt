-- `own_kept` looks at the slots up to the last write.
use Rattle.std.proofs.Common.{ℕ, Bool, false, refl, take, eqb, rules, tests, arith}
use mathlib.Core.Bool.{not, ◌||◌}
use Rattle.std.proofs.lemmas.Iterator.{YieldsList-from_slice, YieldsList-from_zip}
use Rattle.std.proofs.lemmas.Iterator.Consumers.{YieldsList-at}
use Rattle.validity.proofs.Folds.{folded}
use Rattle.lists.proofs.Chains.{reads_list, reads_zip, reads_take}
use Rattle.model.specs.Tables.{yes?, capacity}
use Rattle.validity.proofs.own_kept.Goals as goal

abbrev kept : ℕ → Bool → (ℕ × Bool) × ℕ → Bool
kept who running p = not (eqb p.0.0 who) || (not running || (p.0.1 || yes? p.1))

pub returns : goal.returns
returns c =
    let n = c.args.writes.now.end in
    let W = c.args.writes.now.senders in
    let H = c.args.held.now in
    let A = c.args.applied.now in
    let test = kept c.args.who c.args.running in
    folded test _ _ _ c.fold.ensures.ran
    (YieldsList-from_zip (YieldsList-at c.zip-2.ensures.first (YieldsList-from_zip (YieldsList-at c.zip.ensures.first (YieldsList-from_slice (take n W) cc)) (YieldsList-from_slice H cc))) (YieldsList-from_slice A cc))
    (λ a x b q k. search (rules, tests))
    (reads_zip (reads_zip {j = n} (reads_take n {j = n} (reads_list W 0 capacity (omega arith)) (omega (arith, c.args.writes.now.inside))) (reads_list H false capacity (omega arith)) (omega (arith, c.args.writes.now.inside))) (reads_list A 0 capacity (omega arith)) (omega (arith, c.args.writes.now.inside)))
    (λ k h. refl)

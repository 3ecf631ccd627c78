-- `good_places` compares the first n read positions with the lengths of the logs.
use Rattle.std.proofs.Common.{ℕ, Bool, ap, take, leb, get_or, rules, tests, arith}
use Rattle.std.proofs.lemmas.Iterator.{YieldsList-from_slice, YieldsList-from_zip}
use Rattle.std.proofs.lemmas.Iterator.Consumers.{YieldsList-at}
use Rattle.validity.proofs.Folds.{folded}
use Rattle.lists.proofs.Chains.{reads_list, reads_zip, reads_take}
use Rattle.model.specs.declared.Controller.{Controller}
use Rattle.model.specs.Tables.{no_controller, controller_in, seats}
use Rattle.model.specs.WellFormed.{good_places}
use Rattle.validity.proofs.good_places.Goals as goal

abbrev within : ℕ × Controller → Bool
within p = leb p.0 p.1.length

pub returns : goal.returns
unfolding good_places controller_in
returns c =
    let n = c.args.run.n in
    let read = c.args.c.now.read in
    let C = c.args.controllers.now in
    folded within _ _ _ c.fold.ensures.ran
    (YieldsList-from_zip (YieldsList-at c.zip.ensures.first (YieldsList-from_slice (take n read) cc)) (YieldsList-from_slice C cc))
    (λ a x b q k. search (rules, tests))
    (reads_zip (reads_take n {j = n} (reads_list read 0 seats (omega arith)) (omega (arith, c.args.run.few))) (reads_list C no_controller seats (omega arith)) (omega (arith, c.args.run.few)))
    (λ k h. ap (λ j. leb (get_or read j 0) (get_or C j no_controller).length) (omega arith))

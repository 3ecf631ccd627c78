-- `each_controller` tests controllers 1 to n: those before the place reached passed.
use Rattle.std.proofs.Common.{◌≡◌, true, suc}
use Rattle.lists.specs.Below.{all}
use Rattle.validity.specs.Parts.{all_sent, good_with}
use Rattle.validity.proofs.each_controller.Given as goal

abbrev pub invariant-loop-i : goal.invariant-loop-i
invariant-loop-i l =
    true ≡ all l.i (λ j. good_with l.run.n (all_sent l.run.sent.now) l.controllers l.writes.end l.writes.senders (suc j))

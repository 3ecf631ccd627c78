-- `greatest_numbers` finds the greatest number of each sender in one pass: so far among the messages yielded.
use Rattle.std.proofs.Common.{◌≡◌, length}
use Rattle.lists.specs.Build.{tabulate}
use Rattle.model.specs.Tables.{seats}
use Rattle.validity.proofs.GreatestNumbers.{greatest_so_far}
use Rattle.validity.proofs.greatest_numbers.Given as goal

abbrev pub invariant-loop-m : goal.invariant-loop-m
invariant-loop-m l = l.greatest ≡ tabulate seats (greatest_so_far l.run.sent.now l.flags (length l.yielded))

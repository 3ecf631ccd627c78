-- `greatest_numbers` finds the greatest number of each sender in one pass, one message in each turn.
use Rattle.std.proofs.Common.{◌≡◌, ℕ, List, cond, set, ◌+◌, ◌-◌, ◌<◌, ◌≤◌, max, length, get_or, sym, ◌∙◌, arith, rules, tests}
use Rattle.std.proofs.lemmas.Slice.Zip.{zip_turn}
use Rattle.std.proofs.lemmas.List.{length_push}
use borrow.Author.Tests.{lt-ltb, le-ltb}
use Rattle.lists.specs.Build.{tabulate}
use Rattle.lists.proofs.Tests.{cond_true, cond_false}
use Rattle.model.specs.Tables.{no_message, seats, yes?}
use Rattle.model.specs.declared.Message.{Message}
use Rattle.validity.specs.declared.handed.Run.{Run}
use Rattle.validity.proofs.DistinctNames.{run_bounded}
use Rattle.validity.proofs.GreatestNumbers.{greatest_so_far, none_passed, next_passed}
use Rattle.validity.proofs.greatest_numbers.Goals as goal
use Rattle.validity.proofs.greatest_numbers.Goals.{then-flag-gt0, else-flag-gt0}

pub loop-m-init : goal.loop-m-init
loop-m-init c = none_passed _ _

module _ (r : Run) (j : ℕ) (m : Message) (h : j < length r.sent.now) (e : m ≡ get_or r.sent.now j no_message) where
  low : 1 ≤ m.sender
  low = rw e (run_bounded r j h).low

  high : m.sender ≤ seats
  high = rw e (run_bounded r j h).sender

  passed : (A : List ℕ) (flag : ℕ) → flag ≡ get_or A j 0 → (G : List ℕ) (number best : ℕ) → G ≡ tabulate seats (greatest_so_far r.sent.now A j)
      → number ≡ cond (yes? flag) m.number.0 0 → best ≡ max (get_or G (m.sender - 1) 0) number → set G (m.sender - 1) best ≡ tabulate seats (greatest_so_far r.sent.now A (j + 1))
  passed A flag f G number best g n b = rw e (next_passed r.sent.now A j G number best (run_bounded r j h).low (run_bounded r j h).sender g (rw (e, f) at n) (rw e at b))

pub overflow_sub-found : goal.overflow_sub-found
overflow_sub-found c =
    let t = zip_turn c.args.run.sent.now c.args.flags.now c.loop-m.yielded _ _ c.next.new.self _ (cc) (cc) c.loop-m.yielded_by _ c.in-Some.is c.next.ensures.steps in
    low c.args.run _ _ t.0 (t.2 no_message)

pub bounds-greatest-m : goal.bounds-greatest-m
bounds-greatest-m c =
    let t = zip_turn c.args.run.sent.now c.args.flags.now c.loop-m.yielded _ _ c.next.new.self _ (cc) (cc) c.loop-m.yielded_by _ c.in-Some.is c.next.ensures.steps in
    omega (arith, low c.args.run _ _ t.0 (t.2 no_message), high c.args.run _ _ t.0 (t.2 no_message))

pub loop-m-preserved : goal.loop-m-preserved
loop-m-preserved c =
    let t = zip_turn c.args.run.sent.now c.args.flags.now c.loop-m.yielded _ _ c.next.new.self _ (cc) (cc) c.loop-m.yielded_by _ c.in-Some.is c.next.ensures.steps in
    let e = t.2 no_message in
    let number : c.if-flag-gt0.number ≡ cond (yes? c.in-Some.flag.now) c.in-Some.m.now.number.0 0 = elim c.if-flag-gt0.branch [
      | then-flag-gt0 w ↦ w.number-is ∙ sym (cond_true _ _ (lt-ltb _ _ w.if-flag-gt0.true))
      | else-flag-gt0 w ↦ w.number-is ∙ sym (cond_false _ _ (le-ltb _ _ w.if-flag-gt0.false))
    ] in
    let best : c.max.result ≡ max (get_or c.loop-m.greatest (c.in-Some.m.now.sender - 1) 0) c.if-flag-gt0.number = search (rules, tests) in
    rw (length_push c.loop-m.yielded (c.in-Some.m, c.in-Some.flag))
    (passed c.args.run _ _ t.0 e c.args.flags.now _ (t.3 0) _ _ _ c.loop-m.invariant number best)

-- `next_pair` goes from pair to pair until one waits. The loop's invariant: what is found of the pairs that are left is the next pair.
use Rattle.dispatcher.proofs.Search.{Onward}
use Rattle.dispatcher.proofs.next_pair.Given as goal

abbrev pub invariant-loop : goal.invariant-loop
invariant-loop l = Onward l.n l.controllers l.fn.after l.p l.counter

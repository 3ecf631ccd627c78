-- The search for the next pair, turn by turn: what is found of the pairs that are left is the next pair. Assumes nothing.
use mathlib.Core.Path.{◌≡◌, refl, sym, ap, ◌∙◌}
use mathlib.Core.Bool.{true, false, cond}
use mathlib.Core.List.{List}
use Prim.Native.Nat.{ℕ, suc, ◌+◌, ◌-◌, ◌*◌, ◌≤◌, ◌<◌}
use native.Mathlib.Omega.{arith}
use Rattle.std.specs.Prelude.{Option, Some, None}
use borrow.Author.Tests.{lt-ltb}
use Rattle.lists.proofs.Tests.{cond_true, cond_false}
use Rattle.model.specs.Tables.{seats}
use Rattle.turns.specs.Dispatcher.{following, waits, first_waiting, next_pair}
use Rattle.turns.specs.Claims.{InRange}
use Rattle.turns.proofs.Dispatching.{following_range}
use Rattle.model.specs.declared.Pair.{Pair}
use Rattle.model.specs.declared.Controller.{Controller}
use Rattle.dispatcher.specs.Handed.{if_some}

-- after k turns the search stands at q
pub record Onward (n : ℕ) (C : List Controller) (p q : Pair) (k : ℕ) : Type 0 where
  pub turns : k ≤ n * n
  pub range : InRange n q
  pub left : first_waiting (n * n - k) n C q ≡ next_pair n C p

module _ (n : ℕ) (C : List Controller) (p : Pair) where
  pub starts : InRange n p → Onward n C p p 0
  unfolding next_pair
  starts i = record { turns = omega arith; range = i; left = let z : n * n - 0 ≡ n * n = omega arith in ap (λ k. first_waiting k n C p) z }

  module _ (q x : Pair) (k : ℕ) (o : Onward n C p q k) (h : k < n * n) (ex : x ≡ following n q) where
    -- x is the first of the pairs that are left
    turn : cond (waits C x) x (first_waiting (n * n - (k + 1)) n C x) ≡ next_pair n C p
    unfolding first_waiting
    turn = let z : n * n - k ≡ suc (n * n - (k + 1)) = omega arith in rw ex (rw z at o.left)

    pub turn_range : InRange n x
    turn_range = rw ex (following_range n q o.range)

    pub turn_seated : n ≤ seats → InRange seats x
    turn_seated few = record {
      receiver = record { low = turn_range.receiver.low; high = omega (arith, turn_range.receiver.high) };
      owner = record { low = turn_range.owner.low; high = omega (arith, turn_range.owner.high) };
    }

    pub here : waits C x ≡ true → Some x ≡ if_some (next_pair n C p)
    here w =
        let e : x ≡ next_pair n C p = sym (cond_true _ _ w) ∙ turn in
        rw (← e) (sym (cond_true (Some x) None (lt-ltb 0 x.receiver turn_range.receiver.low)))

    pub onward : waits C x ≡ false → Onward n C p x (k + 1)
    onward w = record { turns = omega arith; range = turn_range; left = sym (cond_false _ _ w) ∙ turn }

  pub none_left : (q : Pair) (k : ℕ) → Onward n C p q k → n * n ≤ k → ◌≡◌ {A = Option Pair} None (if_some (next_pair n C p))
  unfolding first_waiting
  none_left q k o h = let z : n * n - k ≡ 0 = omega arith in rw (← (rw z at o.left)) refl

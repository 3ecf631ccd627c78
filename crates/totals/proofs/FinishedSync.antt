-- A search of the members of a set for a sync of a controller's own: past the array there are none. Assumes nothing.
use mathlib.Core.Path.{◌≡◌, refl, ap, ◌∙◌}
use mathlib.Core.Bool.{Bool, false, ◌&&◌}
use mathlib.Core.List.{List}
use Prim.Native.Nat.{ℕ, min}
use native.Mathlib.Omega.{arith}
use lib.ListN.{length, take, get_or-eq_default}
use lib.Dec.{eqb, ltb}
use Rattle.std.specs.List.{list_any, zip}
use Rattle.lists.specs.Below.{count}
use Rattle.lists.proofs.Chains.{reads_list, reads_take, reads_zip, reads_some}
use Rattle.model.specs.Tables.{capacity, sync_kind, no_message, first_of, message_in}
use Rattle.model.specs.Delivery.{has}
use Rattle.model.specs.Events.{finishes}
use Rattle.model.specs.declared.Message.{Message}
use Rattle.model.proofs.Passes.{clipped}

-- of a message and whether it is a member: whether it is a member and a sync of c
abbrev pub asked : ℕ → Message × Bool → Bool
asked c p = p.1 && (eqb p.0.payload.kind sync_kind && eqb p.0.sender c)

pub finishes_any : (k c : ℕ) (M : List Message) (S : List Bool) → length M ≡ capacity → length S ≡ capacity
    → list_any (asked c) (zip (take (min k capacity) M) S) ≡ finishes (first_of k M) S c
unfolding finishes message_in count
finishes_any k c M S l a =
    reads_some (asked c) at (reads_zip (reads_take (min k capacity) (reads_list M no_message capacity l) refl) (reads_list S false capacity a) (omega arith)) (λ j h. refl)
    ∙ ap (λ n. ltb 0 n) (clipped (λ n. count n at) capacity (λ j q. rw (get_or-eq_default S false {n = j} (omega arith)) refl) k)
  where
    at : ℕ → Bool
    at s = asked c (message_in M s, has S s)

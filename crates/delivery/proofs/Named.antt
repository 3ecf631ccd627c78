-- The set of the slots that the first bytes name: what a turn keeps that makes one more a member. Assumes nothing.
use mathlib.Core.Path.{◌≡◌, refl, sym, ap, ◌∙◌}
use mathlib.Core.Bool.{true, false}
use mathlib.Core.List.{List}
use Prim.Native.Nat.{ℕ, ◌+◌, ◌<◌}
use native.Mathlib.Decide.{ℕ_discrete}
use native.Mathlib.Omega.{arith}
use borrow.Author.Tests.{lt-ltb, ne_eqb}
use lib.ListN.{length, take, set, replicate, length-set, get_or-replicate}
use lib.Seq.{get_or-set_same, get_or-set_other}
use lib.Dec.{ltb}
use Rattle.std.proofs.lemmas.List.{length-take-le, get_or-take}
use Rattle.lists.proofs.Build.{tabulate_self, tabulate_ext}
use Rattle.model.specs.Tables.{capacity}
use Rattle.model.specs.Delivery.{Slots, has}
use Rattle.delivery.specs.Apply.{Listed, front, times, named}
use Rattle.delivery.proofs.Times.{times_none, times_more, times-at, times_ext}

-- the members are the slots that the first k bytes name
pub record Naming (m : List ℕ) (k : ℕ) (S : Slots) : Type 0 where
  pub size : length S ≡ capacity
  pub members : (t : ℕ) → t < capacity → has S t ≡ ltb 0 (times (front m) k t)

module _ (m : List ℕ) where
  pub naming_start : Naming m 0 (replicate capacity false)
  naming_start = record { size = refl; members = λ t h. get_or-replicate capacity t false false h ∙ rw (times_none (front m) t) }

  pub naming_turn : (k : ℕ) (S : Slots) → front m k < capacity → Naming m k S → Naming m (k + 1) (set S (front m k) true)
  naming_turn k S h r = record { size = length-set S (front m k) true ∙ r.size; members = λ t l. go t l (ℕ_discrete (front m k) t) }
    where
      go : (t : ℕ) → t < capacity → Dec (front m k ≡ t) → has (set S (front m k) true) t ≡ ltb 0 (times (front m) (k + 1) t)
      go t l (yes p) =
          rw (← p) (get_or-set_same S (front m k) true false (omega (arith, r.size)) ∙ sym (lt-ltb 0 _ (times-at (front m) (k + 1) k (omega arith))))
      go t l (no d) = get_or-set_other S (front m k) t true false (λ e. d (sym e)) ∙ r.members t l ∙ rw (times_more (front m) k t, ne_eqb (front m k) t d)

  pub naming_end : (k : ℕ) (S : Slots) → Naming m k S → S ≡ named k m
  unfolding named
  naming_end k S r = sym (tabulate_self S false capacity _ r.size (λ t h. sym (r.members t h)))

  -- the first k bytes alone name the same set

  module _ (k : ℕ) (l : Listed k m) where
    taken : length (take k m) ≡ k
    taken = length-take-le k m l.few

    front_taken : (j : ℕ) → j < k → front (take k m) j ≡ front m j
    front_taken j h = get_or-take k m j 0 h

    pub listed_taken : Listed (length (take k m)) (take k m)
    listed_taken = record { few = omega arith; below = λ j h. rw (front_taken j (omega (arith, taken))) (l.below j (omega (arith, taken))) }

    pub named_taken : named (length (take k m)) (take k m) ≡ named k m
    unfolding named
    named_taken = rw taken (tabulate_ext capacity _ _ false (λ t h. ap (ltb 0) (times_ext (front (take k m)) (front m) k t front_taken)))

-- The sums of what was applied, of all messages and of each class, in one pass over the messages: what a turn adds, how large they are,
-- and what the end gives. Assumes nothing.
use mathlib.Core.Path.{◌≡◌, refl, ap, sym, ◌∙◌}
use mathlib.Core.Bool.{true}
use mathlib.Core.Logic.{◌≢◌}
use mathlib.Core.List.{List}
use Prim.Native.Nat.{ℕ, suc, ◌*◌, min, ◌≤◌, ◌<◌}
use native.Mathlib.Nat.{add-zero}
use native.Mathlib.Decide.{ℕ_discrete}
use native.Mathlib.Omega.{arith}
use lib.ListN.{length, get_or, set, replicate, length-set, length-replicate, get_or-replicate, get_or-eq_default}
use lib.Seq.{get_or-set_same, get_or-set_other}
use borrow.Author.Tests.{eq-eqb, ne_eqb, lt-ltb}
use Rattle.lists.specs.Below.{sum}
use Rattle.lists.specs.Build.{tabulate}
use Rattle.lists.proofs.Build.{tabulate_self}
use Rattle.model.specs.Tables.{capacity, class_count, yes?, no_sums, first_of, message_in}
use Rattle.model.specs.Events.{weigh, both_of, plus, sums, of_class, class_sums}
use Rattle.model.specs.declared.Payload.{Payload}
use Rattle.model.specs.declared.Message.{Message}
use Rattle.model.specs.declared.Sums.{Sums}
use Rattle.model.proofs.Passes.{Turn, clipped}
use Rattle.totals.specs.Shown.{amount_of, largest_amount, largest_sum, AtMost}

plus_none : (z : Sums) → plus z no_sums ≡ z
plus_none z = rw (add-zero z.added, add-zero z.withdrawn) refl

at_most_more : (s n : ℕ) (z more : Sums) → n ≡ suc s → AtMost (largest_amount * s) z → AtMost largest_amount more → AtMost (largest_amount * n) (plus z more)
at_most_more s n z more e h k = record { added = omega (arith, h.added, k.added); withdrawn = omega (arith, h.withdrawn, k.withdrawn) }

at_most_still : (s n : ℕ) (z : Sums) → n ≡ suc s → AtMost (largest_amount * s) z → AtMost (largest_amount * n) z
at_most_still s n z e h = record { added = omega (arith, h.added); withdrawn = omega (arith, h.withdrawn) }

at_most_none : (most : ℕ) → AtMost most no_sums
at_most_none most = record { added = omega arith; withdrawn = omega arith }

-- there is room for one amount more
room_for : (s : ℕ) (z : Sums) → s ≤ capacity → AtMost (largest_amount * s) z → AtMost largest_sum z
room_for s z h k = record { added = omega (arith, k.added); withdrawn = omega (arith, k.withdrawn) }

module _ (M : List Message) (A : List ℕ) where
  -- OF ANY WEIGHTS: `of` makes them of the two parts of an amount

  module _ (of : (Payload → ℕ) → Payload → ℕ) where
    -- the sums over the slots below s
    abbrev below : ℕ → Sums
    below s = both_of (λ w. weigh (of w) (first_of s M) A)

    none_yet : no_sums ≡ below 0
    unfolding weigh sum
    none_yet = refl

    counted : (s n : ℕ) (m : Message) (x : ℕ) → Turn M A s n m x → x ≢ 0 → plus (below s) (both_of (λ w. of w m.payload)) ≡ below n
    unfolding weigh sum message_in
    counted s n m x t h =
        let f : yes? (get_or A s 0) ≡ true = rw (← t.element 0) (lt-ltb 0 x (omega (arith, h))) in
        rw (t.next, f, t.message) refl

    passed : (s n : ℕ) (m : Message) (x : ℕ) → Turn M A s n m x → x ≡ 0 → below s ≡ below n
    unfolding weigh sum message_in
    passed s n m x t h =
        let f : get_or A s 0 ≡ 0 = sym (t.element 0) ∙ h in
        rw (t.next, f) (sym (plus_none (below s)))

    over : length A ≡ capacity → (k e : ℕ) → e ≡ min k capacity → below e ≡ below k
    unfolding weigh sum
    over l k e h = rw h (clipped below capacity (λ j q. rw (get_or-eq_default A 0 {n = j} (omega arith)) (plus_none (below j))) k)

  -- OF ALL MESSAGES

  -- the sums over the slots below s, with at most the largest amount from each
  pub record Summed (s : ℕ) (z : Sums) : Type 0 where
    pub is : z ≡ sums (first_of s M) A
    pub small : AtMost (largest_amount * s) z

  pub summed_none : Summed 0 no_sums
  unfolding sums
  summed_none = record { is = none_yet (λ w. w); small = at_most_none _ }

  pub summed_room : (s n : ℕ) (m : Message) (x : ℕ) (z : Sums) → Turn M A s n m x → Summed s z → AtMost largest_sum z
  summed_room s n m x z t p = room_for s z (omega (arith, t.below)) p.small

  pub summed_more : (s n : ℕ) (m : Message) (x : ℕ) (z r : Sums) → Turn M A s n m x → x ≢ 0 → Summed s z → r ≡ plus z (amount_of m.payload) → AtMost largest_amount (amount_of m.payload) → Summed n r
  unfolding sums
  summed_more s n m x z r t h p e b = rw e (record {
    is = ap (λ y. plus y (amount_of m.payload)) p.is ∙ counted (λ w. w) s n m x t h;
    small = at_most_more s n z _ t.next p.small b;
  })

  pub summed_on : (s n : ℕ) (m : Message) (x : ℕ) (z : Sums) → Turn M A s n m x → x ≡ 0 → Summed s z → Summed n z
  unfolding sums
  summed_on s n m x z t h p = record { is = p.is ∙ passed (λ w. w) s n m x t h; small = at_most_still s n z t.next p.small }

  pub summed_all : length A ≡ capacity → (k e : ℕ) (z : Sums) → e ≡ min k capacity → Summed e z → z ≡ sums (first_of k M) A
  unfolding sums
  summed_all l k e z h p = p.is ∙ over (λ w. w) l k e h

  -- OF EACH CLASS

  -- so the sums of class c
  pub record Classed (s c : ℕ) (z : Sums) : Type 0 where
    pub is : z ≡ below (of_class c) s
    pub small : AtMost (largest_amount * s) z

  classed_on : (s n c : ℕ) (m : Message) (x : ℕ) (z : Sums) → Turn M A s n m x → x ≡ 0 → Classed s c z → Classed n c z
  classed_on s n c m x z t h p = record { is = p.is ∙ passed (of_class c) s n m x t h; small = at_most_still s n z t.next p.small }

  -- a message of another class
  classed_other : (s n c : ℕ) (m : Message) (x : ℕ) (z : Sums) → Turn M A s n m x → x ≢ 0 → m.payload.class ≢ c → Classed s c z → Classed n c z
  classed_other s n c m x z t h d p = record {
    is = p.is ∙ sym (plus_none _) ∙ rw (ne_eqb m.payload.class c d) at (counted (of_class c) s n m x t h);
    small = at_most_still s n z t.next p.small;
  }

  classed_more : (s n : ℕ) (m : Message) (x : ℕ) (z : Sums) → Turn M A s n m x → x ≢ 0 → AtMost largest_amount (amount_of m.payload) → Classed s m.payload.class z
      → Classed n m.payload.class (plus z (amount_of m.payload))
  classed_more s n m x z t h b p = record {
    is = ap (λ y. plus y (amount_of m.payload)) p.is ∙ rw (eq-eqb m.payload.class m.payload.class refl) at (counted (of_class m.payload.class) s n m x t h);
    small = at_most_more s n z _ t.next p.small b;
  }

  pub record EachClassed (s : ℕ) (S : List Sums) : Type 0 where
    pub long : length S ≡ class_count
    pub each : (c : ℕ) → c < class_count → Classed s c (get_or S c no_sums)

  pub each_none : EachClassed 0 (replicate class_count no_sums)
  each_none = record {
    long = length-replicate {A = Sums} class_count no_sums;
    each = λ c h. rw (get_or-replicate {A = Sums} class_count c no_sums no_sums h) (record { is = none_yet (of_class c); small = at_most_none _ });
  }

  pub each_on : (s n : ℕ) (m : Message) (x : ℕ) (S : List Sums) → Turn M A s n m x → x ≡ 0 → EachClassed s S → EachClassed n S
  each_on s n m x S t h p = record { long = p.long; each = λ c b. classed_on s n c m x _ t h (p.each c b) }

  pub each_past : (s n : ℕ) (m : Message) (x c : ℕ) (S : List Sums) → Turn M A s n m x → x ≢ 0 → EachClassed s S → c ≡ m.payload.class → length S ≤ c → EachClassed n S
  each_past s n m x c S t h p k q = record { long = p.long; each = λ d b. classed_other s n d m x _ t h (omega (arith, p.long)) (p.each d b) }

  pub each_more : (s n : ℕ) (m : Message) (x c : ℕ) (S R : List Sums) (v : Sums) → Turn M A s n m x → x ≢ 0 → EachClassed s S → c ≡ m.payload.class → c < length S
      → v ≡ plus (get_or S c no_sums) (amount_of m.payload) → AtMost largest_amount (amount_of m.payload) → R ≡ set S c v → EachClassed n R
  each_more s n m x c S R v t h p k q e b r = rw r (record { long = length-set S c v ∙ p.long; each = λ d i. one d i (ℕ_discrete d c) })
    where
      one : (d : ℕ) → d < class_count → Dec (d ≡ c) → Classed n d (get_or (set S c v) d no_sums)
      one d i (yes j) = rw (j, get_or-set_same S c v no_sums q, e, k) (classed_more s n m x _ t h b (p.each m.payload.class (omega (arith, p.long))))
      one d i (no j) = rw (get_or-set_other S c d v no_sums j) (classed_other s n d m x _ t h (λ o. j (sym (k ∙ o))) (p.each d i))

  pub each_all : length A ≡ capacity → (k e : ℕ) (S : List Sums) → e ≡ min k capacity → EachClassed e S → S ≡ tabulate class_count (class_sums (first_of k M) A)
  unfolding class_sums
  each_all l k e S h p = sym (tabulate_self S no_sums class_count _ p.long (λ c b. sym ((p.each c b).is ∙ over (of_class c) l k e h)))

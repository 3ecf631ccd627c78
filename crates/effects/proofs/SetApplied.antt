-- A set applied one message at a time, in the order of the slots, is applied as one. Assumes nothing.
use mathlib.Core.Path.{◌≡◌, refl, sym, ap, ◌∙◌}
use mathlib.Core.Bool.{true, false, cond}
use mathlib.Core.List.{List}
use Prim.Native.Nat.{ℕ, zero, suc, ◌+◌, ◌-◌, min, max, ◌≤◌, ◌<◌}
use native.Mathlib.Numerals.{add-one}
use native.Mathlib.Omega.{arith}
use lib.ListN.{length, get_or, set, take}
use borrow.Author.Tests.{eq-eqb, ne_eqb}
use Rattle.std.proofs.lemmas.List.{length-take, get_or-take}
use Rattle.lists.specs.Below.{greatest}
use Rattle.lists.specs.Build.{tabulate, over}
use Rattle.lists.proofs.Tests.{cond_true, cond_false, refuted, contradiction}
use Rattle.lists.proofs.Below.{greatest_last}
use Rattle.lists.proofs.Build.{get_d_tabulate, tabulate_ext, tabulate_self, over_more}
use Rattle.lists.proofs.Stores.{over-same, over_enough, set-tabulate}
use Rattle.model.specs.Tables.{Messages, seats, capacity, message_in, no_message, entry, highest, unheld, none, no_pending, message_number, with_delivered}
use Rattle.model.specs.Delivery.{Slots, has}
use Rattle.model.specs.Events.{number_of, highest_in, deliver}
use Rattle.model.specs.declared.MessageNumber.{MessageNumber}
use Rattle.model.specs.declared.Pending.{Pending}
use Rattle.model.specs.declared.Message.{Message}
use Rattle.model.specs.declared.Controller.{Controller}
use Rattle.effects.specs.Effects.{with_applied}

-- NUMBERS

greatest_more : (k : ℕ) (f : ℕ → ℕ) → greatest (k + 1) f ≡ max (greatest k f) (f k)
unfolding greatest
greatest_more k f = rw add-one

own_number : (m : Message) → 0 < m.sender → number_of (suc (m.sender - 1)) m ≡ m.number.0
unfolding number_of
own_number m low = cond_true m.number.0 0 (eq-eqb m.sender (suc (m.sender - 1)) (omega arith))

other_number : (x : ℕ) (m : Message) → (m.sender ≡ x → ⊥) → number_of x m ≡ 0
unfolding number_of
other_number x m d = cond_false m.number.0 0 (ne_eqb m.sender x d)

-- THE MESSAGES, of which those sent are told

pub sent_before : (M : Messages) (xs : List Message) (s : ℕ) → xs ≡ take (min M.count capacity) M.slots → s < length xs → s < M.count
sent_before M xs s e h = omega (arith, ap length e, length-take (min M.count capacity) M.slots)

pub sent_at : (M : Messages) (xs : List Message) (s : ℕ) → xs ≡ take (min M.count capacity) M.slots → s < length xs → get_or xs s no_message ≡ message_in M.slots s
unfolding message_in
sent_at M xs s e h = ap (λ (l : List Message). get_or l s no_message) e
    ∙ get_or-take (min M.count capacity) M.slots s no_message (omega (arith, ap length e, length-take (min M.count capacity) M.slots))

-- A SET APPLIED UP TO A SLOT

module _ (M : Messages) (c : Controller) (S : Slots) where
  abbrev pub buffer : ℕ → Pending
  buffer s = cond (has S s) unheld (entry c.pending s)

  abbrev pub marks : ℕ → ℕ
  marks s = cond (has S s) 1 (get_or c.applied s 0)

  -- the number of slot s for sender x, 0 for a slot that is no member
  abbrev pub member : ℕ → ℕ → ℕ
  member x s = cond (has S s) (number_of x (message_in M.slots s)) 0

  abbrev pub numbers : ℕ → ℕ → MessageNumber
  numbers k x = message_number (max (highest c (suc x)) (greatest k (member (suc x))))

  -- the members below k are applied
  unfoldable pub partly : ℕ → Controller
  partly k = with_delivered c (over buffer k c.pending) (over marks k c.applied) (tabulate seats (numbers k))

  pub partly_none : length c.highest ≡ seats → c ≡ partly 0
  unfolding partly over greatest
  partly_none l = ap (λ H. with_delivered c c.pending c.applied H) (sym (tabulate_self c.highest none seats (numbers 0) l (λ x h. ap message_number (start x))))
    where
      start : (x : ℕ) → max (highest c (suc x)) 0 ≡ (get_or c.highest x none).0
      start x = let q : suc x - 1 ≡ x = omega arith in omega (arith, ap (λ (j : ℕ). (get_or c.highest j none).0) q)

  -- a slot that is no member
  pub partly_skip : (k : ℕ) → has S k ≡ false → (x : Controller) → x ≡ partly k → x ≡ partly (k + 1)
  unfolding partly
  partly_skip k out x e =
      rw (
        over-same buffer c.pending no_pending k (cond_false unheld (entry c.pending k) out),
        over-same marks c.applied 0 k (cond_false 1 (get_or c.applied k 0) out),
        tabulate_ext seats (numbers (k + 1)) (numbers k) none (λ y h.
            ap (λ (z : ℕ). message_number (max (highest c (suc y)) z)) (greatest_last k (member (suc y)) (cond_false (number_of (suc y) (message_in M.slots k)) 0 out))),
      ) e

  -- the highest numbers after a member
  raised : (k : ℕ) → has S k ≡ true → 0 < (message_in M.slots k).sender → (message_in M.slots k).sender ≤ seats
      → set (tabulate seats (numbers k)) ((message_in M.slots k).sender - 1)
      (message_number (max (get_or (tabulate seats (numbers k)) ((message_in M.slots k).sender - 1) none).0 (message_in M.slots k).number.0))
      ≡ tabulate seats (numbers (k + 1))
  raised k m low high =
      let x = (message_in M.slots k).sender in
      let top : (y : ℕ) → greatest (k + 1) (member y) ≡ max (greatest k (member y)) (number_of y (message_in M.slots k)) =
      λ y. greatest_more k (member y) ∙ ap (max (greatest k (member y))) (cond_true (number_of y (message_in M.slots k)) 0 m) in
      set-tabulate seats (numbers k) (numbers (k + 1)) none (x - 1) _ (omega arith)
      (rw (get_d_tabulate seats (numbers k) none (x - 1) (omega arith)) (ap message_number (omega (arith, top (suc (x - 1)), own_number (message_in M.slots k) low))))
      (λ y h d. ap message_number (omega (arith, top (suc y), other_number (suc y) (message_in M.slots k) (λ q. d (omega arith)))))

  -- a member
  pub partly_more : (k : ℕ) → has S k ≡ true → 0 < (message_in M.slots k).sender → (message_in M.slots k).sender ≤ seats
      → (x y : Controller) → x ≡ partly k → y ≡ with_applied x (message_in M.slots k) k → y ≡ partly (k + 1)
  unfolding partly with_applied
  partly_more k m low high x y e f =
      f ∙ rw (
        e,
        over_more buffer k c.pending _ unheld refl (sym (cond_true unheld (entry c.pending k) m)),
        over_more marks k c.applied _ 1 refl (sym (cond_true 1 (get_or c.applied k 0) m)),
        raised k m low high,
      )

  pub partly_end : length c.pending ≡ capacity → length c.applied ≡ capacity → M.count ≤ capacity → ((s : ℕ) → has S s ≡ true → s < M.count)
      → (k : ℕ) (x : Controller) → k ≡ M.count → x ≡ partly k → x ≡ deliver M c S
  unfolding partly deliver highest_in
  partly_end lp la h run k x p e =
      e ∙ rw (
        p,
        over_enough buffer c.pending no_pending M.count capacity h lp (λ i l. cond_false unheld (entry c.pending i) (out i l)),
        over_enough marks c.applied 0 M.count capacity h la (λ i l. cond_false 1 (get_or c.applied i 0) (out i l)),
      )
    where
      out : (i : ℕ) → M.count ≤ i → has S i ≡ false
      out i l = refuted (has S i) (λ m. omega (arith, run i m))

  -- a set without members changes nothing
  pub deliver-none : length c.highest ≡ seats → length c.pending ≡ capacity → length c.applied ≡ capacity → M.count ≤ capacity
      → ((s : ℕ) → has S s ≡ false) → c ≡ deliver M c S
  deliver-none lh lp la h out = partly_end lp la h (λ s m. contradiction m (out s)) M.count c refl (skipped M.count)
    where
      skipped : (k : ℕ) → c ≡ partly k
      skipped zero = partly_none lh
      skipped (suc k) = rw (← add-one) (partly_skip k (out k) c (skipped k))

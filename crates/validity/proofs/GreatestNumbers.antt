-- The greatest number of each sender, found in one pass over the messages; and what the greatest number sent tells. Assumes nothing.
use mathlib.Core.Path.{◌≡◌, refl, sym, ◌∙◌}
use mathlib.Core.Bool.{Bool, true, false, not, ◌||◌, cond}
use mathlib.Core.Logic.{◌≢◌}
use mathlib.Core.List.{List}
use Prim.Native.Nat.{ℕ, suc, ◌+◌, ◌-◌, max, ◌≤◌, ◌<◌}
use native.Mathlib.Numerals.{add-one}
use native.Mathlib.Omega.{arith}
use native.Mathlib.Decide.{ℕ_discrete}
use lib.ListN.{get_or, set, replicate, length-replicate, get_or-replicate}
use lib.Dec.{eqb, leb}
use borrow.Author.Tests.{leb-true, le-leb, eqb-true, eq-eqb, ne_eqb}
use Rattle.lists.specs.Below.{all, greatest}
use Rattle.lists.specs.Build.{tabulate}
use Rattle.lists.proofs.Tests.{bool_eq, implies_at, implies_of}
use Rattle.lists.proofs.Below.{all-at, all_of, greatest_ge, greatest_le}
use Rattle.lists.proofs.Build.{tabulate_self, get_d_tabulate}
use Rattle.lists.proofs.Stores.{set-tabulate}
use Rattle.model.specs.Tables.{no_message, message_in, first_of, yes?, seats, capacity}
use Rattle.model.specs.Events.{number_of}
use Rattle.model.specs.Facts.{greatest_applied}
use Rattle.model.specs.declared.Message.{Message}

own_number : (x : ℕ) (m : Message) → m.sender ≡ x → number_of x m ≡ m.number.0
unfolding number_of
own_number x m e = rw (eq-eqb m.sender x e)

other_number : (x : ℕ) (m : Message) → m.sender ≢ x → number_of x m ≡ 0
unfolding number_of
other_number x m d = rw (ne_eqb m.sender x d)

-- ONE PASS

module _ (M : List Message) (A : List ℕ) where
  -- among the first s messages, of the sender at place x
  abbrev pub greatest_so_far : ℕ → ℕ → ℕ
  greatest_so_far s x = greatest_applied (first_of s M) A (suc x)

  last : (s x : ℕ) → greatest_so_far (s + 1) x ≡ max (greatest_so_far s x) (cond (yes? (get_or A s 0)) (number_of (suc x) (get_or M s no_message)) 0)
  unfolding greatest_applied greatest message_in
  last s x = rw add-one

  pub none_passed : replicate seats 0 ≡ tabulate seats (greatest_so_far 0)
  unfolding greatest_applied greatest
  none_passed = sym (tabulate_self (replicate seats 0) 0 seats (greatest_so_far 0) (length-replicate {A = ℕ} seats 0) (λ k h. sym (get_or-replicate {A = ℕ} seats k 0 0 h)))

  pub next_passed : (s : ℕ) (G : List ℕ) (number best : ℕ) → let m = get_or M s no_message in 0 < m.sender → m.sender ≤ seats → G ≡ tabulate seats (greatest_so_far s)
      → number ≡ cond (yes? (get_or A s 0)) m.number.0 0 → best ≡ max (get_or G (m.sender - 1) 0) number
      → set G (m.sender - 1) best ≡ tabulate seats (greatest_so_far (s + 1))
  next_passed s G number best low high e n b =
      let m = get_or M s no_message in
      let x = m.sender - 1 in
      let own : number_of (suc x) m ≡ m.number.0 = own_number (suc x) m (omega arith) in
      rw e
      (set-tabulate seats (greatest_so_far s) (greatest_so_far (s + 1)) 0 x best (omega arith)
      (b ∙ rw (n, e, get_d_tabulate seats (greatest_so_far s) 0 x (omega arith), last s x, own) refl)
      (λ y l d. sym (last s y ∙ rw (other_number (suc y) m (λ p. d (omega (arith, p, low)))) (nothing (yes? (get_or A s 0)) (greatest_so_far s y)))))
    where
      nothing : (b : Bool) (g : ℕ) → max g (cond b 0 0) ≡ g
      nothing true g = omega arith
      nothing false g = omega arith

-- WHAT WAS SENT

-- a log is as long as the greatest number sent exactly if it is as long as each
pub long_enough : (k : ℕ) (M : List Message) (i length : ℕ) → k ≤ capacity
    → leb (greatest_applied (first_of k M) (replicate capacity 1) i) length ≡ all k (λ s. not (eqb (get_or M s no_message).sender i) || leb (get_or M s no_message).number.0 length)
unfolding greatest_applied message_in
long_enough k M i length fits =
    bool_eq _ _
    (λ e. all_of k _ (λ s h. implies_of (eqb (m s).sender i) _ (λ p.
    le-leb (m s).number.0 length (omega (arith, leb-true (greatest k f) length e, greatest_ge k f s h, sent s (omega arith), own_number i (m s) (eqb-true (m s).sender i p))))))
    (λ e. le-leb (greatest k f) length (greatest_le k f length (λ s h. within s (omega arith) (all-at k _ e s h) (ℕ_discrete (m s).sender i))))
  where
    m : ℕ → Message
    m s = get_or M s no_message

    f : ℕ → ℕ
    f s = cond (yes? (get_or (replicate capacity 1) s 0)) (number_of i (m s)) 0

    sent : (s : ℕ) → s < capacity → f s ≡ number_of i (m s)
    sent s h = rw (get_or-replicate {A = ℕ} capacity s 1 0 h)

    within : (s : ℕ) → s < capacity → (not (eqb (m s).sender i) || leb (m s).number.0 length) ≡ true → Dec ((m s).sender ≡ i) → f s ≤ length
    within s h e (yes p) = omega (arith, sent s h, own_number i (m s) p, leb-true (m s).number.0 length (implies_at (eqb (m s).sender i) _ e (eq-eqb (m s).sender i p)))
    within s h e (no d) = omega (arith, sent s h, other_number i (m s) d)

-- What one pass over the messages of a run tells: that each is good, and that their names are distinct. Assumes nothing.
use mathlib.Core.Path.{◌≡◌, sym, ap₂}
use mathlib.Core.Bool.{Bool, true, false, ◌&&◌, and-false, cond}
use mathlib.Core.List.{List}
use Prim.Native.Nat.{ℕ, ◌+◌, ◌*◌, ◌≤◌, ◌<◌}
use native.Mathlib.Omega.{arith}
use lib.ListN.{length, get_or, set, replicate}
use lib.Dec.{eqb, leb, ltb}
use borrow.Author.Tests.{ltb-true, leb-true, eqb-true, eq-eqb}
use Rattle.lists.specs.Below.{distinct}
use Rattle.lists.proofs.Tests.{and_left, and_right, both, bool_eq}
use Rattle.lists.proofs.Below.{all-at, all_of}
use Rattle.lists.proofs.Clipped.{all_failed}
use Rattle.model.specs.Tables.{no_message, first_of, message_in, capacity, seats, write_kind, register_count}
use Rattle.model.specs.Fair.{named, fair_amount, fair_class, fair_register, fair_date}
use Rattle.model.specs.WellFormed.{same_name, good_message, good_messages}
use Rattle.model.specs.declared.Message.{Message}
use Rattle.validity.specs.declared.handed.Run.{Run}
use Rattle.validity.specs.Flags.{Bounded, AllBounded, sender_count}
use Rattle.validity.proofs.SeenFlags.{Read, none_read, next_read, read_twice}

-- RANGES

-- from 1 to k, or 0
at_most : (b : Bool) (x k : ℕ) → cond b (ltb 0 x && leb x k) (eqb x 0) ≡ true → x ≤ k
at_most true x k e = leb-true x k (and_right (ltb 0 x) _ e)
at_most false x k e = omega (arith, eqb-true x 0 e)

pub good_bounded : (v n k : ℕ) (m : Message) → n ≤ seats → k ≤ capacity → good_message v n k m ≡ true → Bounded m
unfolding good_message named fair_register fair_date
good_bounded v n k m few fits e =
    let sender = and_left _ _ e in
    let numbers = and_right (named n m.sender) _ e in
    let above = and_right (ltb 0 m.number.0) _ numbers in
    let fair = and_right (leb m.number.0 capacity) _ above in
    let written = and_right (fair_class v m.payload) _ (and_right (fair_amount m.payload) _ fair) in
    record {
      low = ltb-true 0 m.sender (and_left _ _ sender);
      sender = omega (arith, leb-true m.sender n (and_right (ltb 0 m.sender) _ sender));
      number = leb-true m.number.0 capacity (and_left _ _ above);
      reg = register (eqb m.payload.kind write_kind) (and_left _ _ written);
      date = omega (arith, at_most (eqb m.payload.kind write_kind) m.date k (and_right (fair_register m.payload) _ written));
    }
  where
    register : (b : Bool) → cond b (ltb 0 m.payload.reg && leb m.payload.reg register_count) (eqb m.payload.reg 0 && eqb m.payload.value 0) ≡ true → m.payload.reg ≤ register_count
    register true f = leb-true m.payload.reg register_count (and_right (ltb 0 m.payload.reg) _ f)
    register false f = omega (arith, eqb-true m.payload.reg 0 (and_left _ _ f))

-- A NAME'S CODE

abbrev name_codes : ℕ
name_codes = sender_count * (capacity + 1)

abbrev name_code : Message → ℕ
name_code m = m.sender * (capacity + 1) + m.number.0

pub code_small : (m : Message) → Bounded m → name_code m < name_codes
code_small m h = omega (arith, h.sender, h.number)

-- names are alike exactly if their codes are
code_alike : (a b : Message) → Bounded a → Bounded b → same_name a b ≡ eqb (name_code a) (name_code b)
unfolding same_name
code_alike a b ha hb =
    bool_eq _ _
    (λ e.
    let s = eqb-true a.sender b.sender (and_left _ _ e) in
    let k = eqb-true a.number.0 b.number.0 (and_right (eqb a.sender b.sender) _ e) in
    eq-eqb (name_code a) (name_code b) (ap₂ (λ x y. x * (capacity + 1) + y) s k))
    (λ e.
    let q = eqb-true (name_code a) (name_code b) e in
    both (eq-eqb a.sender b.sender (omega (arith, ha.number, hb.number))) (eq-eqb a.number.0 b.number.0 (omega (arith, ha.number, hb.number))))

-- THE PASS

module _ (v n k : ℕ) (M : List Message) where
  abbrev code : ℕ → ℕ
  code s = name_code (get_or M s no_message)

  abbrev pub Good : ℕ → Type 0
  Good s = good_message v n k (get_or M s no_message) ≡ true

  abbrev alike : ℕ → ℕ → Bool
  alike i j = same_name (get_or M i no_message) (get_or M j no_message)

  -- the first s messages were read
  unfoldable pub MessagesRead : ℕ → List Bool → Type 0
  MessagesRead s seen = Read name_codes code alike Good s seen

  pub no_message_lem : MessagesRead 0 (replicate name_codes false)
  unfolding MessagesRead
  no_message_lem = none_read name_codes code alike Good

  pub bad_message : (s : ℕ) → s < k → good_message v n k (get_or M s no_message) ≡ false → false ≡ good_messages v n (first_of k M)
  unfolding good_messages good_message named fair_date message_in
  bad_message s h e = rw (← all_failed k (λ s. good_message v n k (get_or M s no_message)) s h e) (sym (and-false (distinct k alike)))

  pub all_read : (seen : List Bool) → MessagesRead k seen → true ≡ good_messages v n (first_of k M)
  unfolding MessagesRead good_messages good_message named fair_date message_in
  all_read seen r = sym (both r.apart (all_of k _ r.good))

  module _ (few : n ≤ seats) (fits : k ≤ capacity) where
    bounded : (s : ℕ) → Good s → Bounded (get_or M s no_message)
    bounded s good = good_bounded v n k (get_or M s no_message) few fits good

    module _ (s : ℕ) (seen : List Bool) (r : MessagesRead s seen) (good : Good s) where
      told : (i : ℕ) → i < s → alike s i ≡ eqb (code s) (code i)
      unfolding MessagesRead
      told i h = code_alike (get_or M s no_message) (get_or M i no_message) (bounded s good) (bounded i (r.good i h))

      pub message_read : get_or seen (code s) false ≡ false → MessagesRead (s + 1) (set seen (code s) true)
      unfolding MessagesRead
      message_read e = next_read name_codes code alike Good s seen r (code_small _ (bounded s good)) told good e

      pub name-twice : s < k → get_or seen (code s) false ≡ true → false ≡ good_messages v n (first_of k M)
      unfolding MessagesRead good_messages message_in
      name-twice h e = rw (read_twice name_codes code alike Good s seen r (code_small _ (bounded s good)) told k h e)

    pub all_bounded : good_messages v n (first_of k M) ≡ true → AllBounded k M
    unfolding good_messages good_message named fair_date message_in
    all_bounded e s h = bounded s (all-at k _ (and_right (distinct k alike) _ e) s h)

  pub all_named : good_messages v n (first_of k M) ≡ true → (s : ℕ) → s < k → (0 < (get_or M s no_message).sender) × ((get_or M s no_message).sender ≤ n)
  unfolding good_messages good_message named message_in
  all_named e s h =
      let sender = and_left _ _ (all-at k _ (and_right (distinct k alike) _ e) s h) in
      (ltb-true 0 (get_or M s no_message).sender (and_left _ _ sender), leb-true (get_or M s no_message).sender n (and_right (ltb 0 (get_or M s no_message).sender) _ sender))

-- A RUN WHOSE MESSAGES ARE GOOD

pub run_bounded : (r : Run) → AllBounded (length r.sent.now) r.sent.now
run_bounded r = all_bounded _ _ _ _ r.few r.fits r.good

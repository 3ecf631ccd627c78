-- The dispatcher's round: every pair is some places after any other, and what is found is the nearest that waits. What is served is
-- allowed, and where none is found none waits. Assumes nothing.
use mathlib.Core.Path.{◌≡◌, refl, sym, ap, ap₂, ◌∙◌}
use mathlib.Core.Bool.{true, false, not, ◌&&◌, ◌||◌}
use mathlib.Core.List.{List, []}
use Prim.Native.Nat.{ℕ, zero, suc, ◌+◌, ◌-◌, ◌*◌, ◌≤◌, ◌<◌}
use native.Mathlib.Nat.{suc-mul, mul-le-mul}
use native.Mathlib.Omega.{arith}
use native.Mathlib.Decide.{dec_lt}
use lib.Dec.{eqb, leb, ltb}
use borrow.Author.Tests.{lt-ltb, ltb-true, ltb-false, le-leb, leb-true, eqb-true, eq-eqb, not-true}
use Rattle.lists.proofs.Tests.{and_left, and_right, both, implies_at, implies_of, cond_case, contradiction, refuted}
use Rattle.model.specs.Tables.{scratch_size, yes?, at}
use Rattle.model.specs.Fair.{named}
use Rattle.model.specs.WellFormed.{well_formed}
use Rattle.model.specs.Questions.{first_no, lent_table, unread, handover_questions, event_questions}
use Rattle.model.specs.Calls.{answering, refused}
use Rattle.turns.specs.Dispatcher.{pair, some?, handover, following, waits, first_waiting, next_pair, pair_questions, dispatch_questions, says_none, DispatchOutcome, with_handover, with_none, dispatch}
use Rattle.turns.specs.Claims.{InRange}
use Rattle.model.specs.declared.Pair.{Pair}
use Rattle.model.specs.declared.Controller.{Controller}
use Rattle.model.specs.declared.Table.{Table}
use Rattle.model.proofs.Tested.{named-at, named_of}
use Rattle.model.proofs.Allowed.{no_no, handover_allowed}

-- THE ORDER

following_case : (P : Pair → Type 0) (n : ℕ) (p : Pair) → (p.owner < n → P (pair p.receiver (p.owner + 1)))
    → (n ≤ p.owner → p.receiver < n → P (pair (p.receiver + 1) 1)) → (n ≤ p.owner → n ≤ p.receiver → P (pair 1 1)) → P (following n p)
unfolding following
following_case P n p f g h =
    cond_case P (ltb p.owner n) _ _ (λ e. f (ltb-true p.owner n e))
    (λ e. cond_case P (ltb p.receiver n) _ _ (λ d. g (ltb-false p.owner n e) (ltb-true p.receiver n d))
    (λ d. h (ltb-false p.owner n e) (ltb-false p.receiver n d)))

pub following_range : (n : ℕ) (p : Pair) → InRange n p → InRange n (following n p)
following_range n p i =
    let r = i.receiver in
    let o = i.owner in
    following_case (InRange n) n p
    (λ l. record { receiver = r; owner = record { low = omega arith; high = omega (arith, l) } })
    (λ _ l. record { receiver = record { low = omega arith; high = omega (arith, l) }; owner = record { low = omega arith; high = omega (arith, r.low, r.high) } })
    (λ _ _. record { receiver = record { low = omega arith; high = omega (arith, r.low, r.high) }; owner = record { low = omega arith; high = omega (arith, r.low, r.high) } })

-- the pair d places after p
unfoldable pub after : ℕ → ℕ → Pair → Pair
after n zero p = p
after n (suc d) p = after n d (following n p)

after_add : (n d e : ℕ) (p : Pair) → after n (d + e) p ≡ after n e (after n d p)
unfolding after
after_add n zero e p = let q : zero + e ≡ e = omega arith in ap (λ k. after n k p) q
after_add n (suc d) e p = let q : suc d + e ≡ suc (d + e) = omega arith in rw q (after_add n d e (following n p))

-- the number of a pair in the order
abbrev code : ℕ → Pair → ℕ
code n p = p.receiver * n + p.owner

times : (a b n : ℕ) → a ≤ b → a * n ≤ b * n
times a b n l = mul-le-mul {n₁ = a} {m₁ = n} {n₂ = b} {m₂ = n} l (omega arith)

-- a smaller receiver has smaller numbers
code_below : (n : ℕ) (p q : Pair) → InRange n p → InRange n q → p.receiver < q.receiver → code n p < code n q
code_below n p q i j l = omega (
  arith,
  times (suc p.receiver) q.receiver n l,
  suc-mul p.receiver n,
  i.owner.high,
  j.owner.low,
)

code_same : (n : ℕ) (p q : Pair) → InRange n p → InRange n q → code n p ≡ code n q → p ≡ q
code_same n p q i j e = elim (dec_lt p.receiver q.receiver) [
  | yes l ↦ absurd (omega (arith, code_below n p q i j l, e))
  | no l ↦ elim (dec_lt q.receiver p.receiver) [
    | yes m ↦ absurd (omega (arith, code_below n q p j i m, e))
    | no m ↦
        let r : p.receiver ≡ q.receiver = omega (arith, l, m) in
        let o : p.owner ≡ q.owner = omega (arith, e, ap (λ x. x * n) r) in
        ap₂ pair r o
  ]
]

-- from p to a pair with a greater number, place by place
ahead : (n d : ℕ) (p q : Pair) → InRange n p → InRange n q → code n p + d ≡ code n q → after n d p ≡ q
unfolding after
ahead n zero p q i j e = code_same n p q i j (omega (arith, e))
ahead n (suc d) p q i j e = ahead n d (following n p) q (following_range n p i) j (following_case (λ x. code n x + d ≡ code n q) n p
    (λ l. omega (arith, e))
    (λ m l. omega (arith, e, i.owner.high, m, native.Mathlib.Nat.add-mul p.receiver 1 n, native.Mathlib.Nat.one-mul n))
    (λ m l. absurd (omega (arith, e, m, j.owner.high, times q.receiver p.receiver n (omega (arith, l, j.receiver.high))))))

-- q is from 1 to m places after p
pub record Distance (n m : ℕ) (p q : Pair) : Type 0 where
  pub places : ℕ
  pub some : 0 < places
  pub few : places ≤ m
  pub reaches : after n places p ≡ q

pub distance : (n : ℕ) (p q : Pair) → InRange n p → InRange n q → Distance n (n * n) p q
unfolding after
distance n p q i j = elim (dec_lt (code n p) (code n q)) [
  | yes l ↦ record {
    places = code n q - code n p;
    some = omega (arith, l);
    few = omega (arith, most q j, least p i);
    reaches = ahead n (code n q - code n p) p q i j (omega (arith, l));
  }
  | no l ↦
      let d = code n (pair n n) - code n p in
      let e = code n q - code n (pair 1 1) in
      record {
        places = d + suc e;
        some = omega arith;
        few = omega (arith, l, most p i, least q j, most q j);
        reaches = after_add n d (suc e) p ∙ (ap (after n (suc e)) (ahead n d p (pair n n) i last (omega (arith, most p i)))
            ∙ (ap (after n e) turn ∙ ahead n e (pair 1 1) q first j (omega (arith, least q j))));
      }
]
  where
    first : InRange n (pair 1 1)
    first = record { receiver = record { low = omega arith; high = omega (arith, i.owner.low, i.owner.high) }; owner = record { low = omega arith; high = omega (arith, i.owner.low, i.owner.high) } }

    last : InRange n (pair n n)
    last = record { receiver = record { low = omega (arith, i.owner.low, i.owner.high); high = omega arith }; owner = record { low = omega (arith, i.owner.low, i.owner.high); high = omega arith } }

    turn : following n (pair n n) ≡ pair 1 1
    turn = following_case (λ x. x ≡ pair 1 1) n (pair n n) (λ l. absurd (omega (arith, l))) (λ _ l. absurd (omega (arith, l))) (λ _ _. refl)

    most : (x : Pair) → InRange n x → code n x ≤ n * n + n
    most x k = omega (arith, times x.receiver (n) n k.receiver.high, k.owner.high)

    least : (x : Pair) → InRange n x → 1 * n + 1 ≤ code n x
    least x k = omega (arith, times (1) x.receiver n k.receiver.low, k.owner.low)

-- THE SEARCH

-- what is found of a pair q that waits d places on: a pair x that waits, with q fewer places after it
pub record Nearer (n d : ℕ) (C : List Controller) (q x : Pair) : Type 0 where
  pub range : InRange n x
  pub waiting : waits C x ≡ true
  pub places : ℕ
  pub fewer : places < d
  pub reaches : after n places x ≡ q

module _ (n : ℕ) (C : List Controller) where
  search : (k d : ℕ) (p q : Pair) → InRange n p → d ≤ k → 0 < d → after n d p ≡ q → waits C q ≡ true → Nearer n d C q (first_waiting k n C p)
  unfolding first_waiting after
  search zero d p q i l z e w = absurd (omega (arith, l, z))
  search (suc k) zero p q i l z e w = absurd (omega (arith, z))
  search (suc k) (suc d) p q i l z e w =
      let x = following n p in
      let r = following_range n p i in
      cond_case (Nearer n (suc d) C q) (waits C x) _ _
      (λ y. record { range = r; waiting = y; places = d; fewer = omega arith; reaches = e })
      (λ y. farther (search k d x q r (omega (arith, l)) (on d e y) e w))
    where
      -- q is not the pair after p, which does not wait
      on : (d : ℕ) → after n d (following n p) ≡ q → waits C (following n p) ≡ false → 0 < d
      on zero e y = contradiction w (ap (waits C) (sym e) ∙ y)
      on (suc d) e y = omega arith

      farther : {x : Pair} → Nearer n d C q x → Nearer n (suc d) C q x
      farther f = record { range = f.range; waiting = f.waiting; places = f.places; fewer = omega (arith, f.fewer); reaches = f.reaches }

  pub nearer : (p q : Pair) (d : ℕ) → InRange n p → 0 < d → d ≤ n * n → after n d p ≡ q → waits C q ≡ true → Nearer n d C q (next_pair n C p)
  unfolding next_pair
  nearer p q d i z l e w = search (n * n) d p q i l z e w

  -- where none is found, none waits
  pub none-waits : (p q : Pair) → InRange n p → InRange n q → some? (next_pair n C p) ≡ false → waits C q ≡ false
  none-waits p q i j e = refuted (waits C q) (λ w.
      let d = distance n p q i j in
      let f = nearer p q d.places i d.some d.few d.reaches w in
      contradiction (lt-ltb 0 _ f.range.receiver.low) e)

  -- what is found waits, and is a pair of the run
  first_found : (k : ℕ) (p : Pair) → InRange n p → some? (first_waiting k n C p) ≡ true → InRange n (first_waiting k n C p) × (waits C (first_waiting k n C p) ≡ true)
  unfolding first_waiting
  first_found zero p i e = contradiction e refl
  first_found (suc k) p i e =
      let x = following n p in
      cond_case (λ y. some? y ≡ true → InRange n y × (waits C y ≡ true)) (waits C x) _ _
      (λ w _. (following_range n p i, w)) (λ _. first_found k x (following_range n p i)) e

  pub found : (p : Pair) → InRange n p → some? (next_pair n C p) ≡ true → InRange n (next_pair n C p) × (waits C (next_pair n C p) ≡ true)
  unfolding next_pair
  found = first_found (n * n)

-- THE CALL

-- a pair waits exactly if no question refuses its handover
pub waits_allowed : (t : Table) (q : Pair) → InRange t.n q → waits t.controllers q ≡ true → first_no (event_questions t (handover q)) ≡ 0
unfolding waits first_no event_questions handover_questions
waits_allowed t q i w =
    let x = yes? (at t q.receiver).running in
    rw (named_of t q.receiver i.receiver, named_of t q.owner i.owner, and_left x _ w, and_right x _ w) refl

pub allowed_waits : (t : Table) (q : Pair) → first_no (event_questions t (handover q)) ≡ 0 → InRange t.n q × (waits t.controllers q ≡ true)
unfolding waits unread
allowed_waits t q e =
    let a = handover_allowed t q.receiver q.owner e in
    (record { receiver = a.receiver; owner = a.owner }, both a.running (lt-ltb _ _ a.unread))

-- questions 4, 8 and 15, answered yes
pub record Passed (t : Table) (p q : Pair) (room : ℕ) : Type 0 where
  pub formed : well_formed t ≡ true
  pub named : InRange t.n p
  pub enough : some? q ≡ true → scratch_size ≤ room

pub dispatch_passed : (t : Table) (p q : Pair) (room : ℕ) → first_no (dispatch_questions t p q room) ≡ 0 → Passed t p q room
unfolding dispatch_questions pair_questions lent_table
dispatch_passed t p q room e =
    let q4 = no_no 3 (well_formed t) _ e in
    let q8 = no_no 7 (named t.n p.receiver && named t.n p.owner) _ q4.1 in
    let q15 = (no_no 14 (not (some? q) || leb scratch_size room) [] q8.1).0 in
    record {
      formed = q4.0;
      named = record { receiver = named-at t _ (and_left _ _ q8.0); owner = named-at t _ (and_right (named t.n p.receiver) _ q8.0) };
      enough = λ z. leb-true scratch_size room (implies_at (some? q) _ q15 z);
    }

-- what is answered to a call past question 8 with enough scratch is no refusal
pub passed_dispatch : (t : Table) (p q : Pair) (room : ℕ) → Passed t p q room → first_no (dispatch_questions t p q room) ≡ 0
unfolding first_no dispatch_questions pair_questions lent_table
passed_dispatch t p q room a =
    rw (
      a.formed,
      named_of t p.receiver a.named.receiver,
      named_of t p.owner a.named.owner,
      implies_of (some? q) (leb scratch_size room) (λ z. le-leb scratch_size room (a.enough z)),
    ) refl

module _ (t : Table) (p : Pair) (room : ℕ) where
  abbrev q : Pair
  q = next_pair t.n t.controllers p

  abbrev k : ℕ
  k = first_no (dispatch_questions t p q room)

  -- the call serves the next pair, whose handover no question refuses; or it serves none, refused or since none waits
  pub record Serves : Type 0 where
    pub asked : k ≡ 0
    pub passed : Passed t p q room
    pub range : InRange t.n q
    pub some : some? q ≡ true
    pub allowed : first_no (event_questions t (handover q)) ≡ 0

  serves : k ≡ 0 → some? q ≡ true → Serves
  serves e z =
      let a = dispatch_passed t p q room e in
      let f = found t.n t.controllers p a.named z in
      record { asked = e; passed = a; range = f.0; some = z; allowed = waits_allowed t q f.0 f.1 }

  pub dispatch_case : (P : DispatchOutcome → Type 0) → (Serves → P (with_handover t q)) → ((k ≡ 0 → some? q ≡ false) → P (with_none t k)) → P (dispatch t p room)
  unfolding dispatch
  dispatch_case P f g =
      cond_case P (eqb k 0 && some? q) _ _ (λ e. f (serves (eqb-true k 0 (and_left _ _ e)) (and_right (eqb k 0) _ e)))
      (λ e. g (λ z. refuted (some? q) (λ y. contradiction (both (eq-eqb k 0 z) y) e)))

  pub dispatch_refusal : (dispatch t p room).answer.answer.refusal ≡ k
  unfolding with_handover with_none refused answering
  dispatch_refusal = dispatch_case (λ (o : DispatchOutcome). o.answer.answer.refusal ≡ k) (λ s. sym s.asked) (λ _. refl)

  -- a pair that is answered is the next, and served
  pub dispatch_some : some? (dispatch t p room).answer.pair ≡ true → Serves × (dispatch t p room ≡ with_handover t q)
  unfolding with_handover with_none
  dispatch_some =
      dispatch_case (λ (o : DispatchOutcome). some? o.answer.pair ≡ true → Serves × (o ≡ with_handover t q)) (λ s _. (s, refl)) (λ _ e. contradiction e refl)

  -- "none": nothing waits
  pub none_said : says_none (dispatch t p room).answer ≡ true → Passed t p q room × (some? q ≡ false)
  unfolding with_handover with_none says_none refused answering
  none_said =
      dispatch_case (λ (o : DispatchOutcome). says_none o.answer ≡ true → Passed t p q room × (some? q ≡ false))
      (λ s e. contradiction s.some (not-true (some? q) e))
      (λ f e. let z = eqb-true k 0 (and_left _ _ e) in (dispatch_passed t p q room z, f z))

  pub says_none_lem : Passed t p q room → some? q ≡ false → says_none (dispatch t p room).answer ≡ true
  unfolding with_handover with_none says_none refused
  says_none_lem a e =
      dispatch_case (λ (o : DispatchOutcome). says_none o.answer ≡ true) (λ s. contradiction s.some e) (λ _. rw (passed_dispatch t p q room a) refl)

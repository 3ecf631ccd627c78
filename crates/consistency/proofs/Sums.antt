-- Sums over names: of any weight of a message they depend on the members alone; and what a panel shows, its registers too, is that of what was
-- applied, for each part of a fair amount is what the payload keeps of it. Assumes nothing.
use mathlib.Core.Path.{◌≡◌, refl, sym, ap, ap₂, subst, fun_ext, ◌∙◌}
use mathlib.Core.Bool.{Bool, true, false, ◌||◌, cond, not-not}
use mathlib.Core.Logic.{◌⊎◌, inl, inr}
use mathlib.Core.List.{List, [], ◌∷◌, ◌++◌, map}
use Prim.Native.Nat.{ℕ, zero, suc, ◌+◌, ◌≤◌, ◌<◌}
use native.Mathlib.Omega.{arith}
use lib.IntN.{pos, ◌-ℤ◌}
use lib.Dec.{eqb}
use borrow.Author.Tests.{le-leb}
use Rattle.lists.specs.Below.{sum}
use Rattle.lists.specs.Build.{tabulate_from, tabulate}
use Rattle.lists.proofs.Tests.{and_left, refuted, contradiction, or-false, or_left, or_right, cond_apart}
use Rattle.lists.proofs.Below.{sum_ext, sum-plus, sum_within}
use Rattle.lists.proofs.Grow.{tabulate-suc, map-tabulate}
use Rattle.lists.proofs.Clipped.{sum-none}
use Rattle.model.specs.Tables.{class_count, register_count, at, message, messages_of}
use Rattle.model.specs.Registers.{registers}
use Rattle.model.specs.Events.{weigh, sums, of_class as class_of, class_sums, shown, panel_of}
use Rattle.model.specs.Fair.{fair_amount}
use Rattle.model.specs.Facts.{in_log, Among}
use Rattle.model.specs.declared.Name.{Name}
use Rattle.model.specs.declared.Message.{Message}
use Rattle.model.specs.declared.Payload.{Payload}
use Rattle.model.specs.declared.Sums.{Sums}
use Rattle.model.specs.declared.Register.{Register}
use Rattle.model.specs.declared.Panel.{Panel}
use Rattle.model.specs.declared.Table.{Table}
use Rattle.invariant.proofs.Bounds.{fair_parts}
use Rattle.consistency.specs.Entries.{same, has, Distinct}
use Rattle.consistency.specs.Ledger.{Sent, Ledger, applied, sent_names, remaining, weight_of, weights, above, below, of_class, showing}
use Rattle.consistency.specs.Demand3.{Contains, Exactly}
use Rattle.consistency.proofs.Names.{same_true, same_self, same_sym, has-tabulate-at, has-less, distinct-less}
use Rattle.consistency.proofs.SlotNames.{name_at, slots_differ}
use Rattle.consistency.proofs.Recorded.{balance, sent_of, sent_at, sender_at, Slot, Recorded, slot_sent, sent_slot, applied-known, distinct-sent}
use Rattle.consistency.proofs.Grown.{names, Grown}
use Rattle.consistency.proofs.LedgerRegisters.{register_held, same_members_same_register}

-- WEIGHTS

module _ (w : Sent → ℕ) where
  weight_last : (xs : List Sent) (y : Sent) (m : Name) → (same m y.name ≡ true → has m (map (λ (x : Sent). x.name) xs) ≡ false)
      → weight_of w (xs ++ (y ∷ [])) m ≡ weight_of w xs m + cond (same m y.name) (w y) 0
  unfolding weight_of has
  weight_last [] y m f = omega arith
  weight_last (x ∷ xs) y m f =
      go (same m x.name) (same m y.name) (w x) (weight_of w xs m) (weight_of w (xs ++ (y ∷ [])) m) (w y)
      (λ q. (or-false (same m x.name) _ (f q)).0) (weight_last xs y m (λ q. (or-false (same m x.name) _ (f q)).1))
    where
      go : (a b : Bool) (k r r' e : ℕ) → (b ≡ true → a ≡ false) → r' ≡ r + cond b e 0 → cond a k r' ≡ cond a k r + cond b e 0
      go true true k r r' e f h = contradiction refl (f refl)
      go true false k r r' e f h = omega arith
      go false b k r r' e f h = h

  -- messages sent later change no weight of the earlier ones
  weight_first : (xs ys : List Sent) (m : Name) → has m (names xs) ≡ true → weight_of w (xs ++ ys) m ≡ weight_of w xs m
  unfolding weight_of has
  weight_first [] ys m e = contradiction e refl
  weight_first (x ∷ xs) ys m e = go (same m x.name) (weight_first xs ys m) e
    where
      go : (b : Bool) → (has m (names xs) ≡ true → weight_of w (xs ++ ys) m ≡ weight_of w xs m) → (b || has m (names xs)) ≡ true
          → cond b (w x) (weight_of w (xs ++ ys) m) ≡ cond b (w x) (weight_of w xs m)
      go true f e = refl
      go false f e = f e

  weights-first : (xs ys : List Sent) (ms : List Name) → Contains (names xs) ms → weights w (xs ++ ys) ms ≡ weights w xs ms
  unfolding weights has
  weights-first xs ys [] f = refl
  weights-first xs ys (m ∷ ms) f =
      ap₂ ◌+◌ (weight_first xs ys m (f m (or_left _ (same_self m)))) (weights-first xs ys ms (λ k e. f k (or_right (same k m) e)))

  -- names that differ, by index
  module _ (f : ℕ → Sent) where
    abbrev Differ : ℕ → Type 0
    Differ n = (i j : ℕ) → i < n → j < i → same (f i).name (f j).name ≡ false

    weight_sum : (n : ℕ) → Differ n → (m : Name) → weight_of w (tabulate n f) m ≡ sum n (λ j. cond (same m (f j).name) (w (f j)) 0)
    unfolding weight_of sum tabulate tabulate_from
    weight_sum zero d m = refl
    weight_sum (suc n) d m =
        ap (λ (xs : List Sent). weight_of w xs m) (tabulate-suc f n)
        ∙ weight_last (tabulate n f) (f n) m (λ q. refuted (has m (map (λ (x : Sent). x.name) (tabulate n f))) (old q))
        ∙ ap (λ k. k + cond (same m (f n).name) (w (f n)) 0) (weight_sum n (λ i j h l. d i j (omega arith) l) m)
      where
        old : same m (f n).name ≡ true → has m (map (λ (x : Sent). x.name) (tabulate n f)) ≡ true → ⊥
        old q e =
            let o = has-tabulate-at (λ i. (f i).name) m n (ap (has m) (sym (map-tabulate (λ (x : Sent). x.name) n f)) ∙ e) in
            contradiction (subst (λ x. same x (f o.which).name ≡ true) (same_true m (f n).name q) o.passes) (d n o.which (omega arith) o.below)

    weights-sum : (n : ℕ) → Differ n → (ms : List Name) → Distinct ms → weights w (tabulate n f) ms ≡ sum n (λ j. cond (has (f j).name ms) (w (f j)) 0)
    unfolding weights has Distinct
    weights-sum n d [] e = sum-none _ n (λ _. refl)
    weights-sum n d (m ∷ ms) e =
        ap₂ ◌+◌ (weight_sum n d m) (weights-sum n d ms e.1)
        ∙ sym (sum-plus n _ _)
        ∙ sum_ext n _ _ (λ j h. rw (same_sym m (f j).name) (sym (cond_apart (same (f j).name m) (has (f j).name ms) (w (f j)) (λ q. rw (same_true (f j).name m q) e.0))))

-- THE PARTS OF AN AMOUNT

parts : (a w : ℕ) → (a ≡ 0) ⊎ (w ≡ 0) → (above (pos a -ℤ pos w) ≡ a) × (below (pos a -ℤ pos w) ≡ w)
unfolding above below
parts a zero z = (omega arith, refl)
parts zero (suc w) z = rw (le-leb 1 (suc w) (omega arith)) (refl, omega arith)
parts (suc a) (suc w) (inl z) = absurd (omega arith)
parts (suc a) (suc w) (inr z) = absurd (omega arith)

-- a payload keeps the parts of a fair amount
kept : (p : Payload) → fair_amount p ≡ true → (above (balance p) ≡ p.added) × (below (balance p) ≡ p.withdrawn)
kept p e = parts p.added p.withdrawn (fair_parts p e).apart

-- a weight of a message in the ledger, and of its payload in the table, the same where the amount is fair
pub record Weight : Type 0 where
  pub of : Sent → ℕ
  pub stored : Payload → ℕ
  pub agree : (m : Message) → fair_amount m.payload ≡ true → of (sent_of m) ≡ stored m.payload

-- one that its payload gives
abbrev pub of_payload : (Payload → ℕ) → Weight
of_payload v = record { of = λ x. v x.payload; stored = v; agree = λ m e. refl }

unfoldable added : Weight
added = record { of = λ x. above x.said.amount; stored = λ p. p.added; agree = λ m e. (kept m.payload e).0 }

unfoldable withdrawn : Weight
withdrawn = record { of = λ x. below x.said.amount; stored = λ p. p.withdrawn; agree = λ m e. (kept m.payload e).1 }

unfoldable in_class : ℕ → Weight → Weight
in_class k w = record {
  of = of_class k w.of;
  stored = class_of k w.stored;
  agree = λ m e. ap (λ x. cond (eqb m.payload.class k) x 0) (w.agree m e);
}

-- the panel that shows a number of each weight, and these registers
abbrev panel : (Weight → ℕ) → (ℕ → Register) → Panel
panel f g =
    let both : (Weight → Weight) → Sums = λ v. record { added = f (v added); withdrawn = f (v withdrawn) } in
    record {
      sums = both (λ w. w);
      classes = tabulate class_count (λ k. both (in_class k));
      registers = tabulate register_count (λ i. g (suc i));
    }

-- SUMS OF THE LEDGER

module _ {n : ℕ} {t : Table} {l : Ledger} (k : Recorded n t l) where
  weights_members : (w : Sent → ℕ) (ms : List Name) → Distinct ms → weights w l.sent ms ≡ sum t.count (λ j. cond (has (name_at t j) ms) (w (sent_at t j)) 0)
  weights_members w ms d =
      ap (λ (xs : List Sent). weights w xs ms) k.sent
      ∙ weights-sum w (sent_at t) t.count (λ i j h b. slots_differ t k.formed i j h (omega arith) (omega arith)) ms d

  -- what was applied weighs what the table says
  pub weights-weigh : (w : Weight) (c : ℕ) → Among n c → weights w.of l.sent (applied l c) ≡ weigh w.stored (messages_of t) (at t c).applied
  unfolding weigh
  weights-weigh w c h =
      weights_members w.of (applied l c) (k.once c)
      ∙ sum_ext t.count _ _ (λ j b. ap₂ (λ x y. cond x y 0) (k.applies c h j b) (w.agree (message t j) (k.formed.amounts j b)))

  -- the same members, the same sum
  pub same_members_same-weights : (w : Sent → ℕ) (ms ks : List Name) → Distinct ms → Distinct ks → Exactly ms ks
      → weights w l.sent ms ≡ weights w l.sent ks
  same_members_same-weights w ms ks d e f =
      weights_members w ms d
      ∙ sum_ext t.count _ _ (λ j _. ap (λ x. cond x (w (sent_at t j)) 0) (f (name_at t j)))
      ∙ sym (weights_members w ks e)

  -- fewer messages, no greater a sum
  pub fewer_no_greater : (w : Sent → ℕ) (ms ks : List Name) → Distinct ms → Distinct ks → Contains ks ms
      → weights w l.sent ms ≤ weights w l.sent ks
  fewer_no_greater w ms ks d e f =
      rw (weights_members w ms d, weights_members w ks e)
      (sum_within t.count _ _ (λ j _. go (has (name_at t j) ms) (has (name_at t j) ks) (w (sent_at t j)) (f (name_at t j))))
    where
      go : (a b : Bool) (x : ℕ) → (a ≡ true → b ≡ true) → cond a x 0 ≤ cond b x 0
      go true b x f = rw (f refl) (omega arith)
      go false b x f = omega arith

  -- a panel shows the sums and the registers of whatever has the members that were applied
  panel_members : (c : ℕ) → Among n c → (ms : List Name) → Distinct ms → Exactly (applied l c) ms → panel_of t c ≡ showing l.sent ms
  unfolding panel_of shown sums class_sums registers showing added withdrawn in_class
  panel_members c h ms d f =
      ap₂ panel (fun_ext (λ w. sym (weights-weigh w c h) ∙ same_members_same-weights w.of (applied l c) ms (k.once c) d f))
      (fun_ext (λ r. sym (register_held k c h r) ∙ same_members_same_register k r (applied l c) ms f))

  -- what a panel shows
  pub panel_applied : (c : ℕ) → Among n c → panel_of t c ≡ showing l.sent (applied l c)
  panel_applied c h = panel_members c h (applied l c) (k.once c) (λ _. refl)

  -- what was applied weighs the same in a later ledger
  pub weights_later : {m : Ledger} → Grown l m → (w : Sent → ℕ) (c : ℕ) → weights w l.sent (applied l c) ≡ weights w m.sent (applied l c)
  weights_later g w c = sym (rw g.is (weights-first w l.sent g.more (applied l c) (applied-known k c)))

  -- WHAT REMAINS

  pub distinct-remaining : Distinct (remaining l)
  distinct-remaining = distinct-less (sent_names l) _ (distinct-sent k)

  pub has-remaining : (j : ℕ) → j < t.count → has (name_at t j) (remaining l) ≡ in_log (at t (sender_at t j)) j
  has-remaining j h =
      has-less (name_at t j) (sent_names l) _
      ∙ rw (slot_sent k (name_at t j) (record { which = j; below = h; named = refl }), k.cut j h) (not-not (in_log (at t (sender_at t j)) j))

  pub remaining_slot : (m : Name) → has m (remaining l) ≡ true → Slot t m
  remaining_slot m e = sent_slot k m (and_left (has m (sent_names l)) _ (sym (has-less m (sent_names l) _) ∙ e))

  -- where what was applied is what remains, it shows the panel of that
  pub panel_remaining : (c : ℕ) → Among n c → Exactly (applied l c) (remaining l) → panel_of t c ≡ showing l.sent (remaining l)
  panel_remaining c h = panel_members c h (remaining l) distinct-remaining

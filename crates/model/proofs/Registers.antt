-- Registers: stamps are in order, and a register is the write with the greatest stamp among those that count. Assumes nothing.
use mathlib.Core.Path.{◌≡◌, refl, sym, ap, ap₂, ◌∙◌}
use mathlib.Core.Logic.{◌⊎◌, inl, inr}
use mathlib.Core.Bool.{Bool, true, false, ◌&&◌, ◌||◌}
use mathlib.Core.List.{List}
use Prim.Native.Nat.{ℕ, zero, suc, ◌+◌, ◌≤◌, ◌<◌}
use native.Mathlib.Nat.{not-suc-le-zero}
use native.Mathlib.Omega.{arith}
use lib.Dec.{eqb, ltb}
use borrow.Author.Tests.{ltb-true, ltb-false, leb-true, eqb-true, eq-eqb}
use Rattle.lists.proofs.Tests.{and_left, and_right, or_cases, or-false, or_left, or_right, refuted, cond_case, below_suc}
use Rattle.model.specs.Tables.{register_count, no_register, message_in, message}
use Rattle.model.specs.Registers.{exceeds, wins, writes, written, newest, StampNoLater, Held, none, some}
use Rattle.model.specs.Fair.{fair_register, fair_date}
use Rattle.model.specs.Facts.{WellFormed}
use Rattle.model.specs.declared.Message.{Message}
use Rattle.model.specs.declared.Stamp.{Stamp}
use Rattle.model.specs.declared.Register.{Register}
use Rattle.model.specs.declared.Table.{Table}

-- THE ORDER OF STAMPS

pub not_exceeds : (a b : Stamp) → exceeds a b ≡ false → StampNoLater a b
unfolding exceeds
not_exceeds a b e =
    let f = or-false (ltb b.date a.date) _ e in
    record {
      dates = ltb-false b.date a.date f.0;
      writers = λ q. ltb-false b.writer a.writer (rw (eq-eqb a.date b.date q) at f.1);
    }

pub no_later : (a b : Stamp) → StampNoLater a b → exceeds a b ≡ false
unfolding exceeds
no_later a b h = refuted _ (λ e. go (or_cases (ltb b.date a.date) _ e))
  where
    go : (ltb b.date a.date ≡ true) ⊎ ((eqb a.date b.date && ltb b.writer a.writer) ≡ true) → ⊥
    go (inl p) = omega (arith, ltb-true b.date a.date p, h.dates)
    go (inr p) =
        omega (arith, ltb-true b.writer a.writer (and_right (eqb a.date b.date) _ p), h.writers (eqb-true a.date b.date (and_left _ _ p)))

exceeded : (a b : Stamp) → exceeds a b ≡ true → StampNoLater b a
unfolding exceeds
exceeded a b e = go (or_cases (ltb b.date a.date) _ e)
  where
    go : (ltb b.date a.date ≡ true) ⊎ ((eqb a.date b.date && ltb b.writer a.writer) ≡ true) → StampNoLater b a
    go (inl p) = let l = ltb-true b.date a.date p in record { dates = omega (arith, l); writers = λ q. absurd (omega (arith, l, q)) }
    go (inr p) =
        let q = eqb-true a.date b.date (and_left _ _ p) in
        let l = ltb-true b.writer a.writer (and_right (eqb a.date b.date) _ p) in
        record { dates = omega (arith, q); writers = λ _. omega (arith, l) }

same_later : (a : Stamp) → StampNoLater a a
same_later a = record { dates = omega arith; writers = λ _. omega arith }

later_trans : {a b c : Stamp} → StampNoLater a b → StampNoLater b c → StampNoLater a c
later_trans {a} {b} {c} h k = record {
  dates = omega (arith, h.dates, k.dates);
  writers = λ q.
      let p : a.date ≡ b.date = omega (arith, h.dates, k.dates, q) in
      omega (arith, h.writers p, k.writers (sym p ∙ q));
}

-- two stamps of which neither is later are the same
pub later_antisym : (a b : Stamp) → StampNoLater a b → StampNoLater b a → a ≡ b
later_antisym a b h k =
    let d : a.date ≡ b.date = omega (arith, h.dates, k.dates) in
    let w : a.writer ≡ b.writer = omega (arith, h.writers d, k.writers (sym d)) in
    ap₂ (λ x y. record { date = x; writer = y }) d w

-- no stamp comes before 0, 0
pub zero-first : (a : Stamp) → StampNoLater no_register.stamp a
zero-first a = record { dates = omega arith; writers = λ _. omega arith }

-- THE GREATER OF TWO

wins_case : (P : Register → Type 0) (w y : Register) → (StampNoLater y.stamp w.stamp → P w) → (StampNoLater w.stamp y.stamp → P y) → P (wins w y)
unfolding wins
wins_case P w y f g =
    cond_case P (exceeds w.stamp y.stamp) w y (λ e. f (exceeded w.stamp y.stamp e)) (λ e. g (not_exceeds w.stamp y.stamp e))

pub wins_most : (w y : Register) → StampNoLater w.stamp (wins w y).stamp × StampNoLater y.stamp (wins w y).stamp
wins_most w y =
    wins_case (λ z. StampNoLater w.stamp z.stamp × StampNoLater y.stamp z.stamp) w y
    (λ h. (same_later w.stamp, h)) (λ h. (h, same_later y.stamp))

-- THE NEWEST WRITE

module _ (M : List Message) (f : ℕ → Bool) (r : ℕ) where
  held-suc : {k : ℕ} {y : Register} → Held k M f r y → Held (suc k) M f r y
  held-suc (none e) = none e
  held-suc (some s h p q e) = some s (omega arith) p q e

  pub newest-held : (k : ℕ) → Held k M f r (newest k M f r)
  unfolding newest
  newest-held zero = none refl
  newest-held (suc k) =
      cond_case (Held (suc k) M f r) (f k && writes r (message_in M k)) _ _
      (λ e. wins_case (Held (suc k) M f r) _ _ (λ _. some k (omega arith) (and_left _ _ e) (and_right (f k) _ e) refl) (λ _. held-suc (newest-held k)))
      (λ _. held-suc (newest-held k))

  -- no write that counts is later
  pub newest_most : (k s : ℕ) → s < k → f s ≡ true → writes r (message_in M s) ≡ true → StampNoLater (written (message_in M s)).stamp (newest k M f r).stamp
  unfolding newest
  newest_most zero s h = absurd (not-suc-le-zero h)
  newest_most (suc k) s h =
      below_suc (λ s. f s ≡ true → writes r (message_in M s) ≡ true → StampNoLater (written (message_in M s)).stamp (newest (suc k) M f r).stamp) k
      (λ p q. rw (p, q) (wins_most (written (message_in M k)) (newest k M f r)).0)
      (λ s b p q. later_trans (newest_most k s b p q) grown) s h
    where
      grown : StampNoLater (newest k M f r).stamp (newest (suc k) M f r).stamp
      grown =
          cond_case (λ (y : Register). StampNoLater (newest k M f r).stamp y.stamp) (f k && writes r (message_in M k)) _ _
          (λ _. (wins_most (written (message_in M k)) (newest k M f r)).1) (λ _. same_later (newest k M f r).stamp)

-- it is not later than the newest
pub held_most : {k : ℕ} {M : List Message} {f : ℕ → Bool} {r : ℕ} {y : Register} → Held k M f r y → StampNoLater y.stamp (newest k M f r).stamp
held_most (none e) = rw e (zero-first _)
held_most {k} {M} {f} {r} (some s h p q e) = rw e (newest_most M f r k s h p q)

-- by more slots
pub held_within : {k : ℕ} {M : List Message} {f g : ℕ → Bool} {r : ℕ} {y : Register} → ((s : ℕ) → s < k → f s ≡ true → g s ≡ true) → Held k M f r y → Held k M g r y
held_within w (none e) = none e
held_within w (some s h p q e) = some s h (w s h p) q e

-- a register's date is that of some message
pub held_date : {k : ℕ} {M : List Message} {f : ℕ → Bool} {r : ℕ} {y : Register} (most : ℕ) → Held k M f r y → ((s : ℕ) → s < k → (message_in M s).date ≤ most) → y.stamp.date ≤ most
held_date most (none e) d = rw e (omega arith)
held_date most (some s h p q e) d = rw e (d s h)

-- a register rests on the slots that count and their messages
pub newest-same : (M N : List Message) (r k : ℕ) (f g : ℕ → Bool) → ((s : ℕ) → s < k → f s ≡ g s) → ((s : ℕ) → s < k → message_in M s ≡ message_in N s)
    → newest k M f r ≡ newest k N g r
unfolding newest
newest-same M N r zero f g e m = refl
newest-same M N r (suc k) f g e m =
    rw (e k (omega arith), m k (omega arith), newest-same M N r k f g (λ s h. e s (omega arith)) (λ s h. m s (omega arith))) refl

pub newest_ext : (M : List Message) (r k : ℕ) (f g : ℕ → Bool) → ((s : ℕ) → s < k → f s ≡ g s) → newest k M f r ≡ newest k M g r
newest_ext M r k f g e = newest-same M M r k f g e (λ _ _. refl)

-- a slot more, which does not count
pub newest_last : (M : List Message) (f : ℕ → Bool) (r k : ℕ) → f k ≡ false → newest (k + 1) M f r ≡ newest k M f r
unfolding newest
newest_last M f r k e = let q : k + 1 ≡ suc k = omega arith in rw (q, e) refl

-- ON A WELL-FORMED TABLE

module _ (t : Table) (w : WellFormed t) where
  write-kind : (r s : ℕ) → writes r (message t s) ≡ true → (message t s).payload.kind ≡ 6
  unfolding writes
  write-kind r s e = eqb-true (message t s).payload.kind 6 (and_left _ _ e)

  register_of_lem : (r s : ℕ) → writes r (message t s) ≡ true → (message t s).payload.reg ≡ r
  unfolding writes
  register_of_lem r s e = eqb-true (message t s).payload.reg r (and_right (eqb (message t s).payload.kind 6) _ e)

  -- a write's date is from 1 to the count of messages
  pub write_date : (r s : ℕ) → s < t.count → writes r (message t s) ≡ true → (0 < (message t s).date) × ((message t s).date ≤ t.count)
  unfolding fair_date
  write_date r s h e =
      let d = rw (write-kind r s e) at (w.dates s h) in
      (ltb-true 0 (message t s).date (and_left _ _ d), leb-true (message t s).date t.count (and_right (ltb 0 (message t s).date) _ d))

  -- and that of no other message is greater
  pub message_date : (s : ℕ) → s < t.count → (message t s).date ≤ t.count
  unfolding fair_date
  message_date s h =
      cond_case (λ b. b ≡ true → (message t s).date ≤ t.count) (eqb (message t s).payload.kind 6) _ _
      (λ _ e. leb-true (message t s).date t.count (and_right (ltb 0 (message t s).date) _ e))
      (λ _ e. omega (arith, eqb-true (message t s).date 0 e)) (w.dates s h)

  -- and its register is from 1 to 8
  pub write_register : (r s : ℕ) → s < t.count → writes r (message t s) ≡ true → (0 < r) × (r ≤ register_count)
  unfolding fair_register
  write_register r s h e =
      let d = rw (write-kind r s e) at (w.registers s h) in
      let q = register_of_lem r s e in
      (omega (arith, q, ltb-true 0 (message t s).payload.reg (and_left _ _ d)), omega (arith, q, leb-true (message t s).payload.reg register_count (and_right (ltb 0 (message t s).payload.reg) _ d)))

  -- writes of one register have different stamps
  pub same_stamp_slot : (r i j : ℕ) → i < t.count → j < t.count → writes r (message t i) ≡ true → writes r (message t j) ≡ true
      → (written (message t i)).stamp ≡ (written (message t j)).stamp → i ≡ j
  same_stamp_slot r i j hi hj wi wj e =
      w.stamps i j hi hj (write-kind r i wi) (write-kind r j wj) (ap (λ (a : Stamp). a.writer) e) (register_of_lem r i wi ∙ sym (register_of_lem r j wj)) (ap (λ (a : Stamp). a.date) e)

  -- and none is 0, 0: with its stamp a register has its value
  pub same_stamp_same : {f g : ℕ → Bool} {r : ℕ} {y z : Register} → Held t.count t.messages f r y → Held t.count t.messages g r z → y.stamp ≡ z.stamp → y ≡ z
  same_stamp_same (none e) (none d) q = e ∙ sym d
  same_stamp_same {r = r} (none e) (some s h p v d) q = absurd (omega (arith, (write_date r s h v).0, ap (λ (x : Stamp). x.date) (rw (e, d) at q)))
  same_stamp_same {r = r} (some s h p v e) (none d) q = absurd (omega (arith, (write_date r s h v).0, ap (λ (x : Stamp). x.date) (rw (e, d) at q)))
  same_stamp_same {r = r} (some s h p v e) (some i j u x d) q = e ∙ ap (λ k. written (message t k)) (same_stamp_slot r s i h j v x (rw (e, d) at q)) ∙ sym d

  -- a write that counts is the newest, or the newest exceeds it
  pub newest_or_later : (f : ℕ → Bool) (r s : ℕ) → s < t.count → f s ≡ true → writes r (message t s) ≡ true
      → let y = newest t.count t.messages f r in
      let z = written (message t s) in
      (y ≡ z) ⊎ (exceeds y.stamp z.stamp ≡ true)
  newest_or_later f r s h p v = go (exceeds (newest t.count t.messages f r).stamp (written (message t s)).stamp) refl
    where
      go : (b : Bool) → exceeds (newest t.count t.messages f r).stamp (written (message t s)).stamp ≡ b
          → (newest t.count t.messages f r ≡ written (message t s)) ⊎ (exceeds (newest t.count t.messages f r).stamp (written (message t s)).stamp ≡ true)
      go true e = inr e
      go false e =
          inl (same_stamp_same {g = f} (newest-held t.messages f r t.count) (some s h p v refl) (later_antisym _ _ (not_exceeds _ _ e) (newest_most t.messages f r t.count s h p v)))

  -- of two sets together: that of the first wins, if its stamp exceeds that of the second
  pub newest_joined : (f g h : ℕ → Bool) (r : ℕ) → ((s : ℕ) → s < t.count → h s ≡ (f s || g s))
      → newest t.count t.messages h r ≡ wins (newest t.count t.messages f r) (newest t.count t.messages g r)
  newest_joined f g h r e =
      same_stamp_same all joined (later_antisym (newest t.count t.messages h r).stamp (wins (newest t.count t.messages f r) (newest t.count t.messages g r)).stamp (up all) (held_most joined))
    where
      all : Held t.count t.messages h r (newest t.count t.messages h r)
      all = newest-held t.messages h r t.count

      joined : Held t.count t.messages h r (wins (newest t.count t.messages f r) (newest t.count t.messages g r))
      joined =
          wins_case (Held t.count t.messages h r) _ _
          (λ _. held_within (λ s b p. rw (e s b) (or_left (g s) p)) (newest-held t.messages f r t.count))
          (λ _. held_within (λ s b p. rw (e s b) (or_right (f s) p)) (newest-held t.messages g r t.count))

      most : StampNoLater (newest t.count t.messages f r).stamp (wins (newest t.count t.messages f r) (newest t.count t.messages g r)).stamp
          × StampNoLater (newest t.count t.messages g r).stamp (wins (newest t.count t.messages f r) (newest t.count t.messages g r)).stamp
      most = wins_most (newest t.count t.messages f r) (newest t.count t.messages g r)

      up : {y : Register} → Held t.count t.messages h r y → StampNoLater y.stamp (wins (newest t.count t.messages f r) (newest t.count t.messages g r)).stamp
      up (none q) = rw q (zero-first _)
      up (some s b p v q) = rw q (elim (or_cases (f s) (g s) (sym (e s b) ∙ p)) [
        | inl i ↦ later_trans (newest_most t.messages f r t.count s b i v) most.0
        | inr i ↦ later_trans (newest_most t.messages g r t.count s b i v) most.1
      ])

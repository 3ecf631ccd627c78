-- Registers: those that the ledger gives are those that the table holds, and so no two writes of one have the same stamp, fewer messages give
-- none a later stamp, and a stamp has one value; and a later ledger still gives those of an earlier one. Assumes nothing.
use mathlib.Core.Path.{◌≡◌, refl, sym, ap, ◌∙◌}
use mathlib.Core.Bool.{Bool, true, ◌&&◌, cond}
use mathlib.Core.List.{List, [], ◌∷◌, ◌++◌, append-nil, append_assoc, foldl-append}
use Prim.Native.Nat.{ℕ, zero, suc, ◌+◌, ◌≤◌, ◌<◌}
use native.Mathlib.Omega.{arith}
use lib.ListN.{length, length-append}
use lib.Seq.{get_or_at}
use lib.Dec.{eqb}
use Rattle.lists.specs.Build.{tabulate_from, tabulate}
use Rattle.lists.proofs.Tests.{or_left, or-false, refuted, contradiction}
use Rattle.lists.proofs.Build.{length-tabulate, get_d_tabulate}
use Rattle.lists.proofs.Grow.{tabulate-suc}
use Rattle.model.specs.Tables.{register_count, no_register, at, messages_of}
use Rattle.model.specs.Registers.{wins, writes as writes_of, newest as newest_in, register_of, date_of}
use Rattle.model.specs.declared.Name.{Name}
use Rattle.model.specs.declared.Payload.{Payload}
use Rattle.model.specs.declared.Stamp.{Stamp}
use Rattle.model.specs.declared.Register.{Register}
use Rattle.model.specs.declared.Table.{Table}
use Rattle.model.specs.Facts.{Among}
use Rattle.model.proofs.Registers.{no_later, write_register, newest_or_later, newest-held, held_most, held_within, newest_ext, same_stamp_slot, same_stamp_same}
use Rattle.consistency.specs.Entries.{same, has}
use Rattle.consistency.specs.Ledger.{Sent, Ledger, applied, writes, written, newest, register_at, date_for, sent_names}
use Rattle.consistency.specs.Demand3.{Contains, Exactly, NoLater, OrLater}
use Rattle.consistency.proofs.Names.{same_self, Apart, apart_of}
use Rattle.consistency.proofs.SlotNames.{name_at}
use Rattle.consistency.proofs.Recorded.{said_of, sent_at, Recorded, applied-known, distinct-sent}
use Rattle.consistency.proofs.Grown.{names, Grown, names_grown}

-- BY SLOTS

-- the slots of messages
abbrev among : Table → List Name → ℕ → Bool
among t ms j = has (name_at t j) ms

-- one message more
newest_last : (r : ℕ) (ms : List Name) (xs : List Sent) (x : Sent)
    → let y = newest r xs ms in
    newest r (xs ++ (x ∷ [])) ms ≡ cond (has x.name ms && writes r x) (wins (written x) y) y
unfolding newest
newest_last r ms xs x = foldl-append _ no_register xs (x ∷ [])

newest_slots : (t : Table) (r : ℕ) (ms : List Name) (k : ℕ) → newest r (tabulate k (sent_at t)) ms ≡ newest_in k t.messages (among t ms) r
unfolding newest newest_in writes writes_of tabulate tabulate_from
newest_slots t r ms zero = refl
newest_slots t r ms (suc k) =
    ap (λ (xs : List Sent). newest r xs ms) (tabulate-suc (sent_at t) k)
    ∙ newest_last r ms (tabulate k (sent_at t)) (sent_at t k)
    ∙ ap (λ (y : Register). cond (among t ms k && writes r (sent_at t k)) (wins (written (sent_at t k)) y) y) (newest_slots t r ms k)

module _ {n : ℕ} {t : Table} {l : Ledger} (p : Recorded n t l) where
  newest-has : (r : ℕ) (ms : List Name) → newest r l.sent ms ≡ newest_in t.count t.messages (among t ms) r
  newest-has r ms = ap (λ (xs : List Sent). newest r xs ms) p.sent ∙ newest_slots t r ms t.count

  pub register_held : (c : ℕ) → Among n c → (r : ℕ) → register_at l c r ≡ register_of (messages_of t) (at t c).applied r
  unfolding register_of
  register_held c h r = newest-has r (applied l c) ∙ newest_ext t.messages r t.count _ _ (p.applies c h)

  -- the date that a write gets
  pub date_known : (c : ℕ) → Among n c → (q : Payload) → date_for l c (said_of q) ≡ date_of (messages_of t) (at t c).applied q
  unfolding date_for date_of
  date_known c h q = ap (λ (y : Register). cond (eqb q.kind 6) (y.stamp.date + 1) 0) (register_held c h q.reg)

  -- the same members, the same registers
  pub same_members_same_register : (r : ℕ) (ms ks : List Name) → Exactly ms ks → newest r l.sent ms ≡ newest r l.sent ks
  same_members_same_register r ms ks f = newest-has r ms ∙ newest_ext t.messages r t.count _ _ (λ j _. f (name_at t j)) ∙ sym (newest-has r ks)

  -- BY TWO SETS OF MESSAGES

  -- one within the other
  pub fewer_no_later : (ms ks : List Name) → Contains ks ms → NoLater (λ r. newest r l.sent ms) (λ r. newest r l.sent ks)
  fewer_no_later ms ks w r =
      rw (newest-has r ms, newest-has r ks)
      (no_later _ _ (held_most (held_within (λ s _. w (name_at t s)) (newest-held t.messages (among t ms) r t.count))))

  -- any two
  pub same_stamp_same_register : (r : ℕ) (ms ks : List Name) → (newest r l.sent ms).stamp ≡ (newest r l.sent ks).stamp
      → newest r l.sent ms ≡ newest r l.sent ks
  same_stamp_same_register r ms ks =
      rw (newest-has r ms, newest-has r ks)
      (same_stamp_same t p.formed (newest-held t.messages (among t ms) r t.count) (newest-held t.messages (among t ks) r t.count))

  -- WRITES

  -- a message sent has the slot of its place
  placed : (xs : List Sent) (x : Sent) (ys : List Sent) → l.sent ≡ xs ++ (x ∷ ys) → (length xs < t.count) × (sent_at t (length xs) ≡ x)
  placed xs x ys e =
      let q : tabulate t.count (sent_at t) ≡ xs ++ (x ∷ ys) = sym p.sent ∙ e in
      let b : length xs < t.count = omega (arith, length-append xs (x ∷ ys), ap length q, length-tabulate t.count (sent_at t)) in
      (b, sym (get_d_tabulate t.count (sent_at t) x (length xs) b) ∙ rw q (get_or_at xs x ys x (length xs) refl))

  -- among messages with this write, their register is it or a later one
  pub write_or_later : (xs : List Sent) (x : Sent) (ys : List Sent) → l.sent ≡ xs ++ (x ∷ ys) → (ms : List Name) → has x.name ms ≡ true
      → (r : ℕ) → writes r x ≡ true → OrLater (written x) (newest r l.sent ms)
  unfolding writes writes_of
  write_or_later xs x ys e ms m r w =
      let i = placed xs x ys e in
      let s = length xs in
      let f : among t ms s ≡ true = ap (λ (z : Sent). has z.name ms) i.1 ∙ m in
      let g : writes r (sent_at t s) ≡ true = ap (writes r) i.1 ∙ w in
      rw (← i.1, newest-has r ms) (newest_or_later t p.formed (among t ms) r s i.0 f g)

  -- and it is one of the registers
  pub write_one : (xs : List Sent) (x : Sent) (ys : List Sent) → l.sent ≡ xs ++ (x ∷ ys) → (r : ℕ) → writes r x ≡ true → (0 < r) × (r ≤ register_count)
  unfolding writes writes_of
  write_one xs x ys e r w = let i = placed xs x ys e in write_register t p.formed r (length xs) i.0 (ap (writes r) i.1 ∙ w)

  pub stamps_differ : (r : ℕ) (x y : Sent) (before between after : List Sent) → l.sent ≡ before ++ (x ∷ between ++ (y ∷ after))
      → writes r x ≡ true → writes r y ≡ true → (written x).stamp ≡ (written y).stamp → ⊥
  unfolding writes writes_of
  stamps_differ r x y before between after e wx wy s =
      let i = placed before x (between ++ (y ∷ after)) e in
      let j = placed (before ++ (x ∷ between)) y after (e ∙ sym (append_assoc before (x ∷ between) (y ∷ after))) in
      let stamp : Sent → Stamp = λ z. (written z).stamp in
      omega (
        arith,
        length-append before (x ∷ between),
        same_stamp_slot t p.formed r (length before) (length (before ++ (x ∷ between))) i.0 j.0 (ap (writes r) i.1 ∙ wx) (ap (writes r) j.1 ∙ wy)
            (ap stamp i.1 ∙ (s ∙ sym (ap stamp j.1))),
      )

-- A LATER LEDGER

-- messages that are not among ms change no register
newest_skips : (r : ℕ) (ms : List Name) (xs ys : List Sent) → Apart ms (names ys) → newest r (xs ++ ys) ms ≡ newest r xs ms
unfolding has
newest_skips r ms xs [] a = rw append-nil
newest_skips r ms xs (y ∷ ys) a =
    ap (λ (zs : List Sent). newest r zs ms) (sym (append_assoc xs (y ∷ []) ys))
    ∙ newest_skips r ms (xs ++ (y ∷ [])) ys (λ m e. (or-false (same m y.name) _ (a m e)).1)
    ∙ newest_last r ms xs y
    ∙ rw (refuted (has y.name ms) (λ e. contradiction (or_left _ (same_self y.name)) (a y.name e)))

-- the registers of the first, by what was applied then
pub register_later : {n : ℕ} {t u : Table} {l k : Ledger} → Recorded n t l → Recorded n u k → Grown l k → (c r : ℕ)
    → register_at l c r ≡ newest r k.sent (applied l c)
register_later {l = l} {k = k} p q g c r = sym (rw g.is (newest_skips r (applied l c) l.sent g.more new))
  where
    new : Apart (applied l c) (names g.more)
    new m e = apart_of (sent_names l) _ (rw (names_grown g) at (distinct-sent q)) m (applied-known p c m e)

-- What passes over the writes of a run tell: that their stamps are distinct, and who sent them, so that each controller is asked for its
-- own. Assumes nothing.
use mathlib.Core.Path.{◌≡◌, refl, sym, ◌∙◌}
use mathlib.Core.Bool.{Bool, true, false, ◌&&◌, cond}
use mathlib.Core.List.{List}
use Prim.Native.Nat.{ℕ, suc, ◌+◌, ◌-◌, ◌*◌, ◌≤◌, ◌<◌}
use native.Mathlib.Omega.{arith}
use native.Mathlib.Decide.{ℕ_discrete, dec_lt}
use lib.ListN.{length, get_or, set, replicate, get_or-replicate}
use lib.Seq.{get_or-set_same, get_or-set_other}
use lib.Dec.{eqb}
use borrow.Author.Count.{below_more}
use borrow.Author.Tests.{eqb-true, eq-eqb, ne_eqb}
use Rattle.lists.specs.Below.{all}
use Rattle.lists.proofs.Tests.{and_left, and_right, both, bool_eq, implies_at, implies_of}
use Rattle.lists.proofs.Below.{all-at, all_of, distinct_of}
use Rattle.model.specs.Tables.{no_message, at, message_in, write_kind, capacity, register_count}
use Rattle.model.specs.WellFormed.{same_stamp, kept_write}
use Rattle.model.specs.declared.Message.{Message}
use Rattle.model.specs.declared.Table.{Table}
use Rattle.validity.specs.Flags.{Bounded, writer_of, sender_count}
use Rattle.validity.specs.Reads.{Wrote, each_write}
use Rattle.validity.specs.Parts.{keeps_own}
use Rattle.validity.proofs.SeenFlags.{Read, none_read, passed_over, next_read, read_twice}

-- A STAMP'S CODE, of its register too

abbrev stamp_codes : ℕ
stamp_codes = sender_count * (register_count + 1) * (capacity + 1)

abbrev stamp_code : Message → ℕ
stamp_code m = (m.sender * (register_count + 1) + m.payload.reg) * (capacity + 1) + m.date

pub stamp_small : (m : Message) → Bounded m → stamp_code m < stamp_codes
stamp_small m h = omega (arith, h.sender, h.reg, h.date)

-- that of a write, and for any other message what no flag has
abbrev write_code : Message → ℕ
write_code m = cond (eqb m.payload.kind write_kind) (stamp_code m) stamp_codes

-- a write is like another exactly if their codes are, and like no other message
stamp_alike : (a b : Message) → Bounded a → Bounded b → eqb a.payload.kind write_kind ≡ true → same_stamp a b ≡ eqb (write_code a) (write_code b)
unfolding same_stamp
stamp_alike a b ha hb w = rw w (go (eqb b.payload.kind write_kind))
  where
    go : (x : Bool) → (x && (eqb a.sender b.sender && (eqb a.payload.reg b.payload.reg && eqb a.date b.date))) ≡ eqb (stamp_code a) (cond x (stamp_code b) stamp_codes)
    go true =
        bool_eq _ _
        (λ e.
        let rest = and_right (eqb a.sender b.sender) _ e in
        let s = eqb-true a.sender b.sender (and_left _ _ e) in
        let r = eqb-true a.payload.reg b.payload.reg (and_left _ _ rest) in
        let d = eqb-true a.date b.date (and_right (eqb a.payload.reg b.payload.reg) _ rest) in
        eq-eqb (stamp_code a) (stamp_code b) (omega arith))
        (λ e.
        let q = eqb-true (stamp_code a) (stamp_code b) e in
        let r = ha.reg in
        let r' = hb.reg in
        let d = ha.date in
        let d' = hb.date in
        both (eq-eqb a.sender b.sender (omega arith)) (both (eq-eqb a.payload.reg b.payload.reg (omega arith)) (eq-eqb a.date b.date (omega arith))))
    go false = sym (ne_eqb (stamp_code a) stamp_codes (λ p. omega (arith, stamp_small a ha)))

-- THE PASS

module _ (M : List Message) where
  abbrev sent : ℕ → Message
  sent s = get_or M s no_message

  abbrev code : ℕ → ℕ
  code s = write_code (sent s)

  abbrev alike : ℕ → ℕ → Bool
  alike i j = same_stamp (sent i) (sent j)

  abbrev Good : ℕ → Type 0
  Good s = Bounded (sent s)

  -- the stamps of the first s messages were read
  unfoldable pub StampsRead : ℕ → List Bool → Type 0
  StampsRead s seen = Read stamp_codes code alike Good s seen

  pub no_stamp : StampsRead 0 (replicate stamp_codes false)
  unfolding StampsRead
  no_stamp = none_read stamp_codes code alike Good

  pub all_apart : (k : ℕ) (seen : List Bool) → StampsRead k seen → true ≡ each_write k M
  unfolding StampsRead each_write
  all_apart k seen r = sym r.apart

  module _ (s : ℕ) (seen : List Bool) (r : StampsRead s seen) (bounded : Bounded (sent s)) where
    pub other_read : eqb (sent s).payload.kind write_kind ≡ false → StampsRead (s + 1) seen
    unfolding StampsRead same_stamp
    other_read e = passed_over stamp_codes code alike Good s seen r bounded (rw e (omega arith)) (λ j h. rw e)

    module _ (w : eqb (sent s).payload.kind write_kind ≡ true) where
      coded : code s ≡ stamp_code (sent s)
      coded = rw w

      told : (i : ℕ) → i < s → alike s i ≡ eqb (code s) (code i)
      unfolding StampsRead
      told i h = stamp_alike (sent s) (sent i) bounded (r.good i h) w

      small : code s < stamp_codes
      small = rw coded (stamp_small (sent s) bounded)

      pub stamp_read : get_or seen (stamp_code (sent s)) false ≡ false → StampsRead (s + 1) (set seen (stamp_code (sent s)) true)
      unfolding StampsRead
      stamp_read f = rw (← coded) (next_read stamp_codes code alike Good s seen r small told bounded (rw coded f))

      pub stamp_twice : (k : ℕ) → s < k → get_or seen (stamp_code (sent s)) false ≡ true → false ≡ each_write k M
      unfolding StampsRead each_write
      stamp_twice k h f = sym (read_twice stamp_codes code alike Good s seen r small told k h (rw coded f))

  -- WHO WROTE

  pub none_wrote : Wrote 0 M 0 (replicate capacity 0)
  none_wrote = record { within = omega arith; senders = λ s h. absurd (omega arith); rest = λ s l h. get_or-replicate {A = ℕ} capacity s 0 0 h }

  module _ (s end : ℕ) (W : List ℕ) (fits : s < capacity) (r : Wrote s M end W) where
    pub other_wrote : eqb (sent s).payload.kind write_kind ≡ false → Wrote (s + 1) M end W
    unfolding writer_of
    other_wrote w = record {
      within = omega (arith, r.within);
      senders = below_more _ _ r.senders (r.rest s r.within fits ∙ rw w refl);
      rest = r.rest;
    }

    pub write_wrote : length W ≡ capacity → eqb (sent s).payload.kind write_kind ≡ true → Wrote (s + 1) M (s + 1) (set W s (sent s).sender)
    unfolding writer_of
    write_wrote size w = record {
      within = omega arith;
      senders =
          below_more _ _ (λ j h. get_or-set_other W s j (sent s).sender 0 (omega arith) ∙ r.senders j h)
          (get_or-set_same W s (sent s).sender 0 (omega arith) ∙ rw w refl);
      rest = λ j l h. get_or-set_other W s j (sent s).sender 0 (omega arith) ∙ r.rest j (omega (arith, r.within)) h;
    }

  -- WHAT THAT TELLS

  module _ (k end : ℕ) (W : List ℕ) (fits : k ≤ capacity) (r : Wrote k M end W) (low : (s : ℕ) → s < k → 0 < (sent s).sender) where
    -- a write stands before the end, with its sender
    written : (s : ℕ) → s < k → (sent s).payload.kind ≡ write_kind → (s < end) × (get_or W s 0 ≡ (sent s).sender)
    unfolding writer_of
    written s h w =
        let e : get_or W s 0 ≡ (sent s).sender = r.senders s h ∙ rw (eq-eqb (sent s).payload.kind write_kind w) refl in
        (elim (dec_lt s end) [ yes l ↦ l | no l ↦ absurd (omega (arith, e, r.rest s (omega arith) (omega arith), low s h)) ], e)

    -- and nothing else has a sender
    writes : (s i : ℕ) → s < k → get_or W s 0 ≡ suc i → Dec ((sent s).payload.kind ≡ write_kind) → ((sent s).payload.kind ≡ write_kind) × ((sent s).sender ≡ suc i)
    unfolding writer_of
    writes s i h e (yes w) = (w, sym (written s h w).1 ∙ e)
    writes s i h e (no w) =
        let z : get_or W s 0 ≡ 0 = r.senders s h ∙ rw (ne_eqb (sent s).payload.kind write_kind w) refl in
        absurd (omega (arith, e, z))

    pub no_writes : end ≡ 0 → each_write k M ≡ true
    unfolding each_write same_stamp
    no_writes z = distinct_of k _ (λ i j h l. rw (ne_eqb (sent i).payload.kind write_kind (λ w. omega (arith, z, (written i h w).0))))

-- every write is kept exactly if every controller keeps its own, where every sender is a controller of the run
pub kept_are : (t : Table) (end : ℕ) (W : List ℕ) → t.count ≤ capacity → Wrote t.count t.messages end W
    → ((s : ℕ) → s < t.count → (0 < (get_or t.messages s no_message).sender) × ((get_or t.messages s no_message).sender ≤ t.n))
    → all t.n (λ i. keeps_own end W (suc i) (at t (suc i))) ≡ all t.count (kept_write t)
unfolding keeps_own kept_write message_in
kept_are t end W fits r from =
    let m : ℕ → Message = λ s. get_or t.messages s no_message in
    let low : (s : ℕ) → s < t.count → 0 < (get_or t.messages s no_message).sender = λ s h. (from s h).0 in
    bool_eq _ _
    (λ e. all_of t.count _ (λ s h. implies_of (eqb (m s).payload.kind write_kind) _ (λ p.
    let o = written t.messages t.count end W fits r low s h (eqb-true (m s).payload.kind write_kind p) in
    let x : suc ((m s).sender - 1) ≡ (m s).sender = omega (arith, (from s h).0) in
    let own = all-at end _ (all-at t.n _ e ((m s).sender - 1) (omega (arith, (from s h).0, (from s h).1))) s o.0 in
    implies_at (eqb (get_or W s 0) (m s).sender) _ (rw x at own) (eq-eqb (get_or W s 0) (m s).sender o.1))))
    (λ e. all_of t.n _ (λ i h. all_of end _ (λ s l. implies_of (eqb (get_or W s 0) (suc i)) _ (λ p.
    let inside : s < t.count = omega (arith, r.within) in
    let o = writes t.messages t.count end W fits r low s i inside (eqb-true (get_or W s 0) (suc i) p) (ℕ_discrete (m s).payload.kind write_kind) in
    implies_at (eqb (m s).payload.kind write_kind) _ (rw o.1 at (all-at t.count (kept_write t) e s inside)) (eq-eqb (m s).payload.kind write_kind o.0)))))

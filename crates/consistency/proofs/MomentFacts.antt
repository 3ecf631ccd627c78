-- What the claim says of one moment or of two: containment, what is within what, snapshots, order, looks, local reads, and the ending. Assumes nothing.
use mathlib.Core.Path.{◌≡◌, refl, sym, ap, ap₂, ◌∙◌}
use mathlib.Core.Logic.{◌⊎◌, inl, inr, ◌↔◌}
use mathlib.Core.Bool.{true, false, false≢true}
use mathlib.Core.List.{List, flatten}
use Prim.Native.Nat.{ℕ, zero, suc, ◌-◌, ◌*◌, ◌≤◌, ◌<◌}
use native.Mathlib.Omega.{arith}
use native.Mathlib.Decide.{dec_lt}
use lib.ListN.{length}
use borrow.Author.Tests.{eqb-true, le-leb}
use Rattle.lists.specs.Below.{count}
use Rattle.lists.proofs.Tests.{and_left, and_right, or_cases, refuted, bool_eq}
use Rattle.lists.proofs.Below.{count_ext}
use Rattle.lists.proofs.Clipped.{any_none}
use Rattle.model.specs.Tables.{scratch_size, yes?, at, message, place, held, applied as applied_at, Among, messages_of}
use Rattle.model.specs.Events.{panel_of}
use Rattle.model.specs.Records.{byte, size_of, decode}
use Rattle.model.specs.Facts.{in_log, WellFormed}
use Rattle.model.specs.Questions.{first_no, lent_table, kind_questions, record_questions, own_pending, read_questions, command_questions, scratch_room, step_questions}
use Rattle.model.specs.Calls.{EventAnswer, answering, accepted, settled, event, look}
use Rattle.model.specs.declared.Name.{Name}
use Rattle.model.specs.declared.Register.{Register}
use Rattle.model.specs.declared.Panel.{Panel}
use Rattle.model.specs.declared.Table.{Table}
use Rattle.model.specs.declared.Command.TheVariants.{Read}
use Rattle.model.specs.declared.LookAnswer.{LookAnswer}
use Rattle.model.proofs.Tested.{named_of, tested}
use Rattle.model.proofs.Allowed.{look_asked, look_passed, ReadAllowed, read_allowed}
use Rattle.invariant.proofs.Stores.{seated}
use Rattle.broadcast.specs.State.{State}
use Rattle.broadcast.specs.Delivery.{Subset}
use Rattle.broadcast.proofs.Theorem.{containment, ending}
use Rattle.consistency.specs.Entries.{name, has, own_of}
use Rattle.consistency.specs.Ledger.{Ledger, applied, newest, register_at, sent_names, remaining, showing}
use Rattle.consistency.specs.Demand3.{Contains, Exactly, NoLater, IsRunning, ReadOut, read_record, IsRead, Within}
use Rattle.consistency.proofs.Bridge.{system, code_at, code_injective, Related}
use Rattle.consistency.proofs.BridgeFacts.{few, shown, applied_delivered, delivered_slot, remains_logged, own_logged, all_read, quorum_runs}
use Rattle.consistency.proofs.PassedOver.{earlier-applied}
use Rattle.consistency.proofs.Names.{has_own}
use Rattle.consistency.proofs.SlotNames.{name_at, length_log}
use Rattle.consistency.proofs.Recorded.{slot_case, Recorded, sent_slot}
use Rattle.consistency.proofs.LedgerRegisters.{fewer_no_later, same_stamp_same_register, register_later}
use Rattle.consistency.proofs.Sums.{fewer_no_greater, panel_applied, weights_later, has-remaining, remaining_slot, panel_remaining}
use Rattle.consistency.proofs.Moments.{call_accepted, Moment, Later}

-- CONTAINMENT

-- slots of two tables with one code have one name
code_name : (t u : Table) → WellFormed t → WellFormed u → (i j : ℕ) → i < t.count → j < u.count → code_at t i ≡ code_at u j → name_at t i ≡ name_at u j
code_name t u w v i j li lj e =
    let q = code_injective (message t i).sender (message t i).number.0 (message u j).sender (message u j).number.0
    (seated w.few (w.senders i li)) (seated v.few (v.senders j lj)) (w.numbers i li).0 (w.numbers i li).1 (v.numbers j lj).0 (v.numbers j lj).1 e in
    ap₂ (λ (c k : ℕ). name c k) q.0 q.1

module _ {n : ℕ} {t u : Table} {l k : Ledger} {s r : State} (g : Related n t s) (p : Recorded n t l) (h : Related n u r) (q : Recorded n u k) where
  subset_contains : (c d : ℕ) → Among n c → Among n d → Subset (s.delivered (c - 1)) (r.delivered (d - 1)) → Contains (applied k d) (applied l c)
  subset_contains c d hc hd w m e = slot_case (λ m. has m (applied l c) ≡ true → has m (applied k d) ≡ true) (p.applied_sent c m e) each e
    where
      each : (j : ℕ) → j < t.count → has (name_at t j) (applied l c) ≡ true → has (name_at t j) (applied k d) ≡ true
      each j b e =
          let y = w.each (code_at t j) (applied_delivered g c j hc b ∙ (sym (p.applies c hc j b) ∙ e)) in
          let o = delivered_slot h (d - 1) (code_at t j) y in
          rw (← code_name u t h.formed g.formed o.slot j o.below b o.is)
          (q.applies d hd o.slot o.below ∙ (sym (applied_delivered h d o.slot hd o.below) ∙ rw o.is y))

naming : (n c : ℕ) → Dec (Among n c)
naming n zero = no (λ h. omega (arith, h.low))
naming n (suc c) = elim (dec_lt c n) [ yes h ↦ yes (record { low = omega arith; high = h }) | no h ↦ no (λ k. h k.high) ]

-- whoever has applied a message is a controller of the run
applied-named : {n : ℕ} {t : Table} {l : Ledger} → Recorded n t l → (c : ℕ) (m : Name) → has m (applied l c) ≡ true → Among n c
unfolding has flatten
applied-named {n} p c m e = elim (naming n c) [ yes h ↦ h | no f ↦ absurd (false≢true (rw (p.unnamed c f) at e)) ]

-- of every controller, what it has applied at a moment and what another has applied later
abbrev pub Comparable : Ledger → Ledger → Type 0
Comparable l k = (c d : ℕ) → Contains (applied l c) (applied k d) ⊎ Contains (applied k d) (applied l c)

pub comparable : {n : ℕ} {s₀ : State} {t u : Table} {l k : Ledger} → Later n s₀ t u l k → Comparable l k
comparable {n} {s₀} {t} {u} {l} {k} w c d = go w.first w.second (naming n c) (naming n d)
  where
    go : (m : Moment n s₀ t l) → Moment n m.state u k → Dec (Among n c) → Dec (Among n d)
        → Contains (applied l c) (applied k d) ⊎ Contains (applied k d) (applied l c)
    go m m' (no f) y = inr (λ x e. absurd (f (applied-named m.recorded c x e)))
    go m m' (yes x) (no f) = inl (λ x e. absurd (f (applied-named m'.recorded d x e)))
    go m m' (yes x) (yes y) = elim (containment (system n) m.state m'.state m.related.all m'.run (c - 1) (d - 1)) [
      | inl w ↦ inr (subset_contains m.related m.recorded m'.related m'.recorded c d x y w)
      | inr w ↦ inl (subset_contains m'.related m'.recorded m.related m.recorded d c y x w)
    ]

-- WITHIN, and SNAPSHOTS, at a moment and later

-- of every two controllers they are in order; and where two stamps are the same, so are the values
abbrev pub InOrder : Ledger → Ledger → Type 0
InOrder l k = (c d : ℕ) → NoLater (register_at l c) (register_at k d) ⊎ NoLater (register_at k d) (register_at l c)

abbrev pub OneValue : Ledger → Ledger → Type 0
OneValue l k = (c d r : ℕ) → (register_at l c r).stamp ≡ (register_at k d r).stamp → (register_at l c r).value ≡ (register_at k d r).value

module _ {n : ℕ} {s₀ : State} {t u : Table} {l k : Ledger} (m : Later n s₀ t u l k) where
  abbrev q : Recorded n u k
  q = m.second.recorded

  by_later : (c r : ℕ) → register_at l c r ≡ newest r k.sent (applied l c)
  by_later = register_later m.first.recorded q m.grown

  -- who has applied no less later shows no less
  pub within : (c d : ℕ) → Contains (applied k d) (applied l c) → Within l c k d
  within c d w = record {
    messages = w;
    sums = λ f. rw (weights_later m.first.recorded m.grown f c) (fewer_no_greater q f (applied l c) (applied k d) (m.first.recorded.once c) (q.once d) w);
    registers = λ r. rw (by_later c r) (fewer_no_later q (applied l c) (applied k d) w r);
  }

  pub snapshots : InOrder l k
  snapshots c d = elim (comparable m c d) [
    | inl w ↦ inr (λ r. rw (by_later c r) (fewer_no_later q (applied k d) (applied l c) w r))
    | inr w ↦ inl (within c d w).registers
  ]

  pub values : OneValue l k
  values c d r e =
      ap (λ (y : Register). y.value)
      (by_later c r ∙ same_stamp_same_register q r (applied l c) (applied k d) (ap (λ (y : Register). y.stamp) (sym (by_later c r)) ∙ e))

-- ORDER

pub in_order : {n : ℕ} {s₀ : State} {t : Table} {l : Ledger} → Moment n s₀ t l → (r c j k : ℕ)
    → j < k → has (name c k) (applied l r) ≡ true → has (name c j) (sent_names l) ≡ true → has (name c j) (applied l r) ≡ true
in_order m r c j k b e f =
    let p = m.recorded in
    let h = applied-named p r (name c k) e in
    let y = p.applied_sent r (name c k) e in
    let x = sent_slot p (name c j) f in
    let sender : Name → ℕ = λ m. m.sender in
    let number : Name → ℕ = λ m. m.number.0 in
    rw (← x.named)
    (p.applies r h x.which x.below
    ∙ earlier-applied m.related r y.which x.which h y.below x.below
    (ap sender y.named ∙ sym (ap sender x.named)) (omega (arith, b, ap number y.named, ap number x.named))
    (sym (p.applies r h y.which y.below) ∙ rw y.named e))

-- A LOOK

module _ {n : ℕ} {s₀ : State} {t : Table} {l : Ledger} (m : Moment n s₀ t l) where
  -- a look that is not refused names a controller
  look-named : (c : ℕ) → (look t c).refusal ≡ 0 → Among n c
  unfolding look
  look-named c e = omega (arith, (look_asked t c e).1, m.related.size)

  look_is : (c : ℕ) → Among n c → look t c ≡ record { refusal = 0; panel = panel_of t c }
  unfolding look
  look_is c h = rw (look_passed t c (tested t m.related.formed) (omega (arith, m.related.size)))

  pub look_shows : (c : ℕ) (a : LookAnswer) → a ≡ look t c → a.refusal ≡ 0 → a.panel ≡ showing l.sent (applied l c)
  look_shows c a e z =
      let h = look-named c (ap (λ (b : LookAnswer). b.refusal) (sym e) ∙ z) in
      ap (λ (b : LookAnswer). b.panel) (e ∙ look_is c h) ∙ panel_applied m.recorded c h

-- A LOCAL READ that is not refused

module _ {n : ℕ} {s₀ : State} {t : Table} {l : Ledger} (m : Moment n s₀ t l)
    (s w : List ℕ) (a : EventAnswer) (e : a ≡ (event t s (length w)).answer) (reads : IsRead s) (z : a.refusal ≡ 0) where
  abbrev c : ℕ
  c = byte s 2

  decoded : decode t.version s ≡ Read c
  unfolding decode
  decoded = rw reads refl

  allowed : ReadAllowed t c
  allowed = read_allowed t c (rw decoded at (call_accepted t s w a e z).0)

  reader : Among n c
  reader = omega (arith, allowed.controller, m.related.size)

  pub read_gives : a.sums ≡ (showing l.sent (applied l c)).sums
  unfolding accepted answering
  read_gives = rw ((call_accepted t s w a e z).1, decoded) (ap (λ (b : Panel). b.sums) (panel_applied m.recorded c reader))

  -- an own message is in the log, and so applied, for it is not pending
  own_applied : (j : ℕ) → j < t.count → (message t j).sender ≡ c → applied_at (at t c) j ≡ true
  own_applied j b q =
      let x = (m.related.formed.controllers c allowed.controller).exact allowed.running j b in
      elim (or_cases (held (at t c) j) (applied_at (at t c) j) (sym x ∙ own_logged m.related c j b q allowed.running)) [
        | inl h ↦ absurd (allowed.none_pending j b h q)
        | inr h ↦ h
      ]

  pub read_rests : Contains (applied l c) (own_of c (sent_names l))
  read_rests x f =
      let q = sym (has_own x c (sent_names l)) ∙ f in
      let y = sent_slot m.recorded x (and_left (has x (sent_names l)) _ q) in
      rw (← y.named)
      (m.recorded.applies c reader y.which y.below
      ∙ own_applied y.which y.below (ap (λ (m : Name). m.sender) y.named ∙ eqb-true x.sender c (and_right (has x (sent_names l)) _ q)))

-- THE ENDING

module _ {n : ℕ} {s₀ : State} {t : Table} {l : Ledger} (m : Moment n s₀ t l) (e : ReadOut n l) (r : ℕ) (on : IsRunning n l r) where
  abbrev g : Related n t m.state
  g = m.related

  abbrev p : Recorded n t l
  p = m.recorded

  abbrev h : Among n r
  h = on.named

  runs_in_table : yes? (at t r).running ≡ true
  runs_in_table = sym (p.runs r h) ∙ on.running

  read_out : (a o : ℕ) → Among n a → Among n o → yes? (at t a).running ≡ true → place (at t a) o ≡ (at t o).length
  read_out a o ha ho run =
      sym (p.places a o ha ho) ∙ (e.to_end a o (record { named = ha; running = p.runs a ha ∙ run }) ho ∙ (ap length (p.logs o ho) ∙ length_log t (at t o)))

  majority_runs : n < 2 * count n (λ i. yes? (at t (suc i)).running)
  majority_runs = rw (← count_ext n (λ i. l.runs (suc i)) (λ i. yes? (at t (suc i)).running) (λ i k. p.runs (suc i) (record { low = omega arith; high = k }))) e.majority

  slot_ending : (j : ℕ) → j < t.count → (applied_at (at t r) j ≡ true) ↔ (in_log (at t (message t j).sender) j ≡ true)
  slot_ending j k =
      let x = ending (system n) m.state g.all (quorum_runs g majority_runs) (all_read g read_out) (r - 1) (omega (arith, few g)) ((shown g r h).running ∙ runs_in_table) (code_at t j) in
      let y = remains_logged g j k in
      ((λ a. y.0 (x.0 (applied_delivered g r j h k ∙ a))), (λ a. sym (applied_delivered g r j h k) ∙ x.1 (y.1 a)))

  pub moment_ending : Exactly (applied l r) (remaining l)
  moment_ending x = bool_eq _ _
      (λ y. slot_case (λ m. has m (applied l r) ≡ true → has m (remaining l) ≡ true) (p.applied_sent r x y)
      (λ j b z. has-remaining p j b ∙ (slot_ending j b).0 (sym (p.applies r h j b) ∙ z)) y)
      (λ y. slot_case (λ m. has m (remaining l) ≡ true → has m (applied l r) ≡ true) (remaining_slot p x y)
      (λ j b z. p.applies r h j b ∙ (slot_ending j b).1 (sym (has-remaining p j b) ∙ z)) y)

  pub ending_shows : ((look t r).refusal ≡ 0) × ((look t r).panel ≡ showing l.sent (remaining l))
  ending_shows = rw (look_is m r h) (refl, panel_remaining p r h moment_ending)

  -- its own messages remain, and so it has applied them
  none_own : own_pending (messages_of t) (at t r).pending r ≡ false
  unfolding own_pending
  none_own = sym (any_none t.count _ (λ j b. refuted _ (λ q.
      let own = eqb-true (message t j).sender r (and_right (held (at t r) j) _ q) in
      (g.formed.controllers r (omega (arith, g.size))).apart j b (and_left _ _ q)
      ((slot_ending j b).1 (rw own (own_logged g r j b own runs_in_table))))))

  pub ending_gives : (w : List ℕ) → scratch_size ≤ length w
      → let a = (event t (read_record r) (length w)).answer in (a.refusal ≡ 0) × (a.sums ≡ (showing l.sent (remaining l)).sums)
  unfolding event settled accepted answering first_no lent_table step_questions record_questions kind_questions size_of decode read_questions command_questions scratch_room
  ending_gives w k =
      rw (tested t g.formed, named_of t r (omega (arith, g.size)), runs_in_table, none_own, le-leb scratch_size (length w) k)
      (refl, ap (λ (b : Panel). b.sums) (panel_remaining p r h moment_ending))

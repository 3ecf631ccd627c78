-- No file's listing passes 11,200 bytes: each of 7 controllers applies each of 64 messages once, and a message takes at most 25
-- bytes of lines. So question 16 never refuses where the listing has that room. Assumes nothing.
use mathlib.Core.Path.{◌≡◌, refl, sym, ap, ◌∙◌}
use mathlib.Core.Logic.{◌≢◌, inl, inr}
use mathlib.Core.Bool.{Bool, true, false, cond}
use mathlib.Core.List.{List, [], ◌∷◌}
use Prim.Native.Nat.{ℕ, zero, suc, ◌+◌, ◌-◌, ◌*◌, ◌≤◌, ◌<◌}
use native.Mathlib.Omega.{arith}
use lib.ListN.{length, length-append, length-drop, get_or, drop}
use lib.Dec.{eqb, leb, ltb}
use borrow.Author.Tests.{eqb-true, eq-eqb, ne_eqb, ltb-true, leb-true, le-leb}
use Rattle.lists.specs.Below.{all, sum}
use Rattle.lists.proofs.Tests.{cond_case, and_left, and_right}
use Rattle.lists.proofs.Below.{all-at, sum_bound, sum_raised}
use Rattle.lists.specs.Every.{Every}
use Rattle.model.specs.Tables.{at, message, applied, messages_of}
use Rattle.model.specs.Delivery.{Slots, has}
use Rattle.model.specs.Events.{subject, next, applied_by, controller_of, resulting, weigh, shown, panel_of, earlier, insert, names_below, names_of, name_of}
use Rattle.model.specs.Records.{byte, size, after_record, kind, size_of, decode}
use Rattle.model.specs.Sized.{Sized}
use Rattle.model.specs.Questions.{first_no, file_questions, kind_questions, record_questions, event_questions, command_questions, line_fits}
use Rattle.model.specs.Calls.{answering, accepted, step}
use Rattle.model.specs.Runs.{line, line_of, Progress, line_at, verdict, records, begun, progress}
use Rattle.model.specs.declared.Name.{Name}
use Rattle.model.specs.declared.Sums.{Sums}
use Rattle.model.specs.declared.Table.{Table}
use Rattle.model.specs.declared.Event.{Event}
use Rattle.model.specs.declared.Command.{Command}
use Rattle.model.specs.declared.Command.TheVariants.{Act, Read}
use Rattle.model.specs.Facts.{Among, WellFormed}
use Rattle.model.proofs.Allowed.{no_no, step_asked, file_allowed, subject_allowed}
use Rattle.model.proofs.Steps.{step-first_no, step_is_accepted, accepted_asked, accepted_within}
use Rattle.model.proofs.Runs.{gone, verdict_passed, advance_case}
use Rattle.model.proofs.Decimals.{decimal_bound}
use Rattle.model.proofs.Lengths.{length-insert, SmallName, names_bound, length-sums, length-line}
use Rattle.invariant.proofs.Sizes.{next_n, fresh_sized}
use Rattle.invariant.proofs.Kept.{next_well_formed, resulting_kept, fresh_well_formed}
use Rattle.invariant.proofs.Refusals.{step_refusals}
use Rattle.invariant.specs.Claims.{weigh_set, Bounded}
use Rattle.invariant.proofs.Counter.{weigh-next}
use Rattle.invariant.proofs.Bounds.{sums_bounded}

-- LINES

-- what a line is written for: numbers of 5 digits, 1 digit and twice 5 digits, and names of 1 and 2 digits
record SmallLine (e c : ℕ) (z : Sums) (ms : List Name) : Type 0 where
  event : e < 100000
  controller : c < 10
  sums : Bounded z
  names : Every (SmallName 0 1) ms

line-length : (e c : ℕ) (z : Sums) (ms : List Name) → SmallLine e c z ms → length (line e c z ms) ≤ 20 + 5 * length ms
line-length e c z ms h =
    omega (
      arith,
      length-line e c z ms,
      decimal_bound 4 e h.event,
      decimal_bound 0 c h.controller,
      length-sums z,
      decimal_bound 4 z.added (omega (arith, h.sums.added)),
      decimal_bound 4 z.withdrawn (omega (arith, h.sums.withdrawn)),
      names_bound 0 1 ms h.names,
    )

line_of_length : (e c : ℕ) (z : Sums) (ms : List Name) → SmallLine e c z ms → length (line_of e c z ms) ≤ 25 * length ms
unfolding line_of
line_of_length e c z [] h = omega arith
line_of_length e c z (m ∷ ms) h = omega (arith, line-length e c z (m ∷ ms) h)

-- THE NUMBERS OF A LINE

every-insert : (P : Name → Type 0) (x : Name) (ys : List Name) → P x → Every P ys → Every P (insert x ys)
unfolding insert Every
every-insert P x [] h k = (h, tt)
every-insert P x (y ∷ ys) h k =
    cond_case (Every P) (earlier x y) (x ∷ y ∷ ys) (y ∷ insert x ys) (λ _. (h, k)) (λ _. (k.0, every-insert P x ys h k.1))

every-below : (P : Name → Type 0) (k : ℕ) (t : Table) (S : Slots) → ((s : ℕ) → s < k → P (name_of (message t s))) → Every P (names_below k t.messages S)
unfolding names_below Every
every-below P zero t S h = tt
every-below P (suc k) t S h =
    let r = every-below P k t S (λ s l. h s (omega arith)) in
    cond_case (Every P) (has S k) _ _ (λ _. every-insert P (name_of (message t k)) (names_below k t.messages S) (h k (omega arith)) r) (λ _. r)

-- of an event that no question refuses
small_line : (t : Table) (e : Event) → Sized t → WellFormed t → first_no (event_questions t e) ≡ 0 → (k : ℕ) → k < 100000
    → SmallLine k (subject e) (panel_of (next t e) (subject e)).sums (names_of (messages_of t) (applied_by t e))
unfolding panel_of shown names_of
small_line t e z w q k h =
    record {
      event = h;
      controller = omega (arith, w.few, (subject_allowed t e q).high);
      sums = sums_bounded (next t e) (next_well_formed t e z w q) (at (next t e) (subject e));
      names = every-below (SmallName 0 1) t.count t (applied_by t e)
          (λ s l. record { sender = omega (arith, w.few, (w.senders s l).high); number = omega (arith, (w.numbers s l).1) });
    }

-- DELIVERIES

-- how often messages were applied, by all controllers together
deliveries : Table → ℕ
deliveries t = sum t.n (λ i. weigh (λ p. 1) (messages_of t) (at t (suc i)).applied)

deliveries_bound : (t : Table) → WellFormed t → deliveries t ≤ 448
unfolding deliveries weigh
deliveries_bound t w =
    omega (
      arith,
      sum_bound t.n (λ i. weigh (λ p. 1) (messages_of t) (at t (suc i)).applied) 64
          (λ i h. omega (
            arith,
            w.fitting,
            sum_bound t.count (λ s. cond (applied (at t (suc i)) s) 1 0) 1
                (λ s l. cond_case (λ x. x ≤ 1) (applied (at t (suc i)) s) 1 0 (λ _. omega arith) (λ _. omega arith)),
          )),
      w.few,
    )

names-length : (k : ℕ) (t : Table) (S : Slots) → length (names_below k t.messages S) ≡ sum k (λ s. cond (has S s) 1 0)
unfolding names_below sum
names-length zero t S = refl
names-length (suc k) t S = go (has S k) (names-length k t S)
  where
    go : (b : Bool) → length (names_below k t.messages S) ≡ sum k (λ s. cond (has S s) 1 0)
        → length (cond b (insert (name_of (message t k)) (names_below k t.messages S)) (names_below k t.messages S)) ≡ sum k (λ s. cond (has S s) 1 0) + cond b 1 0
    go true e = omega (arith, length-insert (name_of (message t k)) (names_below k t.messages S))
    go false e = omega (arith, e)

-- the term of controller r raised by d
raised_at : (n : ℕ) (f g : ℕ → ℕ) (r d : ℕ) → Among n r → ((k : ℕ) → k < n → g k ≡ f k + cond (eqb (suc k) r) d 0) → sum n g ≡ sum n f + d
raised_at n f g r d h e =
    let q : suc (r - 1) ≡ r = omega (arith, h.low) in
    sum_raised n f g (r - 1) d (omega (arith, h.low, h.high)) (e (r - 1) (omega (arith, h.low, h.high)) ∙ rw (eq-eqb (suc (r - 1)) r q) refl)
    (λ k l n. e k l ∙ rw (ne_eqb (suc k) r (λ z. n (omega (arith, z)))) (omega arith))

-- an event applies what it names
deliveries_next : (t : Table) (e : Event) → Sized t → WellFormed t → first_no (event_questions t e) ≡ 0
    → deliveries (next t e) ≡ deliveries t + length (names_of (messages_of t) (applied_by t e))
unfolding deliveries names_of weigh_set
deliveries_next t e z w q =
    ap (λ n. sum n (λ i. weigh (λ p. 1) (messages_of (next t e)) (at (next t e) (suc i)).applied)) (next_n t e)
    ∙ raised_at t.n _ _ (subject e) _ (subject_allowed t e q) (λ i l. weigh-next t e z w q (λ p. 1) (suc i) (record { low = omega arith; high = l }))
    ∙ ap (λ k. deliveries t + k) (sym (names-length t.count t (applied_by t e)))

-- ONE RECORD

-- the line of a record that no question refuses takes no more than what it delivers allows; a local read delivers nothing and has none
line_delivers : (t : Table) (a : Command) (r : List ℕ) → Sized t → WellFormed t → first_no (command_questions t a) ≡ 0 → (k : ℕ) → k < 100000
    → length (line_of k (controller_of a) (panel_of (resulting t a) (controller_of a)).sums (answering t a r).names) + 25 * deliveries t ≤ 25 * deliveries (resulting t a)
unfolding resulting answering controller_of command_questions line_of
line_delivers t (Act e) r z w q k h =
    let ms = names_of (messages_of t) (applied_by t e) in
    omega (
      arith,
      deliveries_next t e z w q,
      line_of_length k (subject e) (panel_of (next t e) (subject e)).sums ms (small_line t e z w q k h),
    )
line_delivers t (Read c) r z w q k h = omega arith

-- a run that goes on with at most f records, and has listed no more than its deliveries allow
record Listed (f : ℕ) (p : Progress) : Type 0 where
  going : p.refusal ≡ 0
  few : p.events + f < 100000
  sized : Sized p.table
  formed : WellFormed p.table
  lines : length p.lines ≤ 25 * deliveries p.table

module _ (p : Progress) (s : List ℕ) (room space f : ℕ) (h : Listed (suc f) p) where
  -- with an accepted event more it is such a run
  accepted_listed : (step p.table s room).answer.refusal ≡ 0 → Listed f (gone p s room space)
  unfolding accepted line_at
  accepted_listed e =
      let t = p.table in
      let a = accepted_asked t s room e in
      let q = (step_asked t s room a).1 in
      let d = decode t.version s in
      let k = resulting_kept t d h.sized h.formed q in
      rw (step_is_accepted t s room a) (record {
        going = refl;
        few = omega (arith, h.few);
        sized = k.0;
        formed = k.1;
        lines = omega (
          arith,
          h.lines,
          length-append p.lines (line_of (p.events + 1) (controller_of d) (panel_of (resulting t d) (controller_of d)).sums (answering t d (after_record s)).names),
          line_delivers t d (after_record s) h.sized h.formed q (p.events + 1) (omega (arith, h.few)),
        );
      })

  -- so that question 16 does not refuse
  verdict_not_16 : 11200 ≤ space → verdict p s room space ≢ 16
  unfolding verdict first_no line_fits
  verdict_not_16 l =
      let k = (step p.table s room).answer.refusal in
      cond_case (λ v. v ≢ 16) (eqb k 0) _ k
      (λ e.
      let d = accepted_listed (eqb-true k 0 e) in
      rw (le-leb (length (line_at p s room)) (space - length p.lines)
      (omega (arith, d.lines, length-append p.lines (line_at p s room), deliveries_bound (gone p s room space).table d.formed))) (omega arith))
      (λ _ z. elim (step_refusals p.table s room) [
        | inl y ↦ absurd (omega (arith, step-first_no p.table s room))
        | inr y ↦ absurd (omega (arith, step-first_no p.table s room))
      ])

-- THE RUN

record Fits (p : Progress) : Type 0 where
  not_16 : p.refusal ≢ 16
  short : length p.lines ≤ 11200

listed_fits : (f : ℕ) (p : Progress) → Listed f p → Fits p
listed_fits f p h = record { not_16 = omega (arith, h.going); short = omega (arith, h.lines, deliveries_bound p.table h.formed) }

records_fit : (f : ℕ) (p : Progress) (s : List ℕ) (room space : ℕ) → 11200 ≤ space → Listed f p → Fits (records f p s room space)
unfolding records
records_fit zero p s room space l h = listed_fits 0 p h
records_fit (suc f) p [] room space l h = listed_fits (suc f) p h
records_fit (suc f) p (b ∷ s) room space l h =
    advance_case p (b ∷ s) room space (λ q. Fits (cond (eqb q.refusal 0) (records f q (after_record (b ∷ s)) room space) q))
    (λ v. records_fit f (gone p (b ∷ s) room space) (after_record (b ∷ s)) room space l (accepted_listed p (b ∷ s) room space f h (verdict_passed p (b ∷ s) room space v).0))
    (λ d. rw (ne_eqb (verdict p (b ∷ s) room space) 0 d) (record { not_16 = verdict_not_16 p (b ∷ s) room space f h l; short = (listed_fits (suc f) p h).short }))

pub listing_fits : (s : List ℕ) (room space : ℕ) → first_no (file_questions s) ≡ 0 → 11200 ≤ space
    → ((progress s room space).refusal ≢ 16) × (length (progress s room space).lines ≤ 11200)
unfolding progress begun
listing_fits s room space q h =
    let a = file_allowed s q in
    let r = records_fit (length s) (begun (byte s 0) (byte s 1)) (drop 2 s) room space h
    (record { going = refl; few = omega (arith, a.short); sized = fresh_sized (byte s 0) (byte s 1); formed = fresh_well_formed a.fresh; lines = omega arith }) in
    (r.not_16, r.short)

-- HOW MANY EVENTS

-- a record has at least three bytes, its length byte counted
size_least : (v k : ℕ) → 0 < k → k ≤ 6 → 2 ≤ size_of v k
unfolding size_of all
size_least v zero l h = elim l [ ]
size_least v (suc k) l h = cond_case (λ n. 2 ≤ get_or (n ∷ 2 ∷ 3 ∷ 4 ∷ 2 ∷ 7 ∷ []) k 0) (eqb v 2) 5 4 (λ _. each 5 refl) (λ _. each 4 refl)
  where
    each : (n : ℕ) → all 6 (λ j. leb 2 (get_or (n ∷ 2 ∷ 3 ∷ 4 ∷ 2 ∷ 7 ∷ []) j 0)) ≡ true → 2 ≤ get_or (n ∷ 2 ∷ 3 ∷ 4 ∷ 2 ∷ 7 ∷ []) k 0
    each n e = leb-true 2 _ (all-at 6 (λ j. leb 2 (get_or (n ∷ 2 ∷ 3 ∷ 4 ∷ 2 ∷ 7 ∷ []) j 0)) e k (omega arith))

accepted-size : (v : ℕ) (s : List ℕ) → first_no (record_questions v s) ≡ 0 → 2 ≤ size s
unfolding record_questions kind_questions
accepted-size v s e =
    let q5 = no_no _ _ _ e in
    let q6 = no_no _ _ _ q5.1 in
    let q7 = no_no _ _ _ q6.1 in
    let k = and_right (ltb 0 (size s)) _ q6.0 in
    omega (
      arith,
      eqb-true (size s) (size_of v (kind s)) q7.0,
      size_least v (kind s) (ltb-true 0 (kind s) (and_left _ _ k)) (leb-true (kind s) 6 (and_right (ltb 0 (kind s)) _ k)),
    )

length-after : (s : List ℕ) → length (after_record s) ≡ length s - (size s + 1)
unfolding after_record
length-after s = length-drop (size s + 1) s

records-count : (f : ℕ) (p : Progress) (s : List ℕ) (room space : ℕ) → 3 * (records f p s room space).events ≤ 3 * p.events + length s
unfolding records
records-count zero p s room space = omega arith
records-count (suc f) p [] room space = omega arith
records-count (suc f) p (b ∷ s) room space =
    advance_case p (b ∷ s) room space (λ q. 3 * (cond (eqb q.refusal 0) (records f q (after_record (b ∷ s)) room space) q).events ≤ 3 * p.events + length (b ∷ s))
    (λ v.
    let e = (verdict_passed p (b ∷ s) room space v).0 in
    let a = accepted_asked p.table (b ∷ s) room e in
    omega (
      arith,
      records-count f (gone p (b ∷ s) room space) (after_record (b ∷ s)) room space,
      accepted-size p.table.version (b ∷ s) (step_asked p.table (b ∷ s) room a).0,
      accepted_within p.table (b ∷ s) room e,
      length-after (b ∷ s),
    ))
    (λ d. rw (ne_eqb (verdict p (b ∷ s) room space) 0 d) (omega arith))

-- No file has more than 21,844 events.
pub events_bound : (s : List ℕ) (room space : ℕ) → first_no (file_questions s) ≡ 0 → (progress s room space).events ≤ 21844
unfolding progress begun
events_bound s room space q =
    let a = file_allowed s q in
    omega (arith, a.long, a.short, length-drop 2 s, records-count (length s) (begun (byte s 0) (byte s 1)) (drop 2 s) room space)

-- One record of a file run: from what the code reads, carries out and writes to the run after it. Assumes nothing.
use mathlib.Core.Path.{◌≡◌, refl, sym, ap, ◌∙◌}
use mathlib.Core.Logic.{◌≢◌}
use mathlib.Core.Bool.{Bool, true, false, cond, true≢false}
use mathlib.Core.List.{List, [], ◌∷◌, ◌++◌, append-nil, append_assoc}
use Prim.Native.Nat.{ℕ, ◌+◌, ◌-◌, ◌≤◌, ◌<◌}
use native.Mathlib.Omega.{arith}
use lib.ListN.{length, take, drop, length-drop, length-append, drop_of_length-le, take-append-drop}
use lib.Seq.{length-take-le, take-append_seam, drop-drop}
use lib.Dec.{leb}
use borrow.Author.Tests.{eq-eqb, ne_eqb, leb-true, le-leb}
use borrow.Rule.Slice.PartMut.{mid_of, post_of, put_mid, put_same}
use Rattle.std.specs.Prelude.{Result, Ok, Err}
use Rattle.lists.specs.Build.{overlay}
use Rattle.lists.proofs.Tests.{cond_true, cond_false, refuted}
use Rattle.lists.proofs.Clipped.{any_none}
use Rattle.model.specs.Tables.{yes?, messages_of}
use Rattle.model.specs.Events.{subject, after, with_sent, next, applied_by, controller_of, resulting, sums, panel_of, names_of, finishes}
use Rattle.model.specs.Records.{size, decode}
use Rattle.model.specs.Sized.{Sized}
use Rattle.model.specs.Refusals.{refusal_number, refusal_in}
use Rattle.model.specs.Questions.{first_no, line_fits, record_questions, step_questions}
use Rattle.model.specs.Calls.{answering, accepted, step, cleared, scratch_after, answer_of}
use Rattle.model.specs.Runs.{Progress, line, line_of, line_at, verdict}
use Rattle.model.specs.declared.Name.{Name}
use Rattle.model.specs.declared.Sums.{Sums}
use Rattle.model.specs.declared.Table.{Table}
use Rattle.model.specs.declared.Event.{Event}
use Rattle.model.specs.declared.Event.TheVariants.{Send, Handover, Stop}
use Rattle.model.specs.declared.Command.TheVariants.{Act, Read}
use Rattle.model.specs.declared.refusal.Refusal.{Refusal}
use Rattle.model.proofs.Allowed.{no_no}
use Rattle.model.proofs.Lengths.{none_named}
use Rattle.model.proofs.Handovers.{set_at}
use Rattle.model.proofs.Steps.{step-first_no, step_is_accepted, accepted_table}
use Rattle.model.proofs.Runs.{advance-gone, advance-ended}
use Rattle.records.specs.Cuts.{record_of}
use Rattle.records.specs.declared.Record.{Record}
use Rattle.records.proofs.Cuts.{part_rest}
use Rattle.model.proofs.Refused.{refusal_is}
use Rattle.questions.proofs.Answers.{refused_first}
use Rattle.listing.specs.Writing.{tail_after, Wrote}
use Rattle.effects.specs.declared.Effect.{Effect}
use Rattle.effects.specs.Conditions.{Accepted}
use Rattle.effects.specs.Parties.{Both, hand_of}
use Rattle.effects.specs.Effects.{effect_of, Effected, CarriesOut, Leaves, Stores}
use Rattle.effects.proofs.Room.{subject_seated}
use Rattle.effects.proofs.Seats.{allowed_hand}
use Rattle.effects.proofs.StoredEffect.{sums-shown}
use Rattle.events.specs.Stepped.{refusal_of}
use Rattle.events.proofs.QuestionOrder.{record_passed, enough, allowed}
use Rattle.files.specs.declared.Cursor.{Cursor}
use Rattle.files.specs.Turns.{SumsAnswered, progress_of, Before, turned, Turned}

-- a line that question 16 does not refuse fits
fit : (a c : ℕ) → 0 ≡ first_no (line_fits a c ∷ []) → leb a c ≡ true
unfolding line_fits
fit a c e = (no_no 15 (leb a c) [] (sym e)).0

-- a list written after the first n bytes of another
overlay-after : (n : ℕ) (x l : List ℕ) → n ≤ length l → take n l ++ overlay x (drop n l) ≡ overlay (take n l ++ x) l
unfolding overlay
overlay-after n x l h =
    let m = length-take-le n l h in
    rw (length-append (take n l) x, m, ← drop-drop (length x) n l) (sym (append_assoc (take n l) x (drop (length x) (drop n l))))

-- THE QUESTIONS of a record, put one list after the other

-- a record r that was read off the bytes s, and that no question refuses
pub record Accepts (t : Table) (s : List ℕ) (room : ℕ) (r : Record) : Type 0 where
  pub passed : first_no (step_questions t s room) ≡ 0
  pub command : r.command ≡ decode t.version s
  pub used : r.used ≡ size s + 1

module _ (t : Table) (s : List ℕ) (room : ℕ) where
  pub refused_read : (k : Refusal) → refusal_number k ≡ first_no (record_questions t.version s) → refusal_number k ≡ first_no (step_questions t s room)
  unfolding step_questions
  refused_read k e = refused_first k _ _ e

  module _ (z : 0 ≡ first_no (record_questions t.version s)) (r : Record) (er : r ≡ record_of t.version s) where
    pub asked_read : (k : ℕ) → k ≡ refusal_of t r.command room → k ≡ first_no (step_questions t s room)
    unfolding step_questions refusal_of
    asked_read k e = e ∙ rw er (sym (record_passed t.version s _ z))

    pub accepts : 0 ≡ refusal_of t r.command room → Accepts t s room r
    accepts e = record {
      passed = sym (asked_read 0 e);
      command = ap (λ (x : Record). x.command) er;
      used = ap (λ (x : Record). x.used) er;
    }

-- THE LINE

-- a set that is not empty has a line
pub line_some : (e c : ℕ) (z : Sums) (xs : List Name) → 0 < length xs → line e c z xs ≡ line_of e c z xs
unfolding line_of
line_some e c z [] h = absurd (omega arith)
line_some e c z (x ∷ xs) h = refl

-- where there is no line nothing is written
pub no_line_lem : (s : List ℕ) → Wrote [] s s (Ok 0)
unfolding tail_after overlay first_no line_fits
no_line_lem s = let z = le-leb 0 (length s) (omega arith) in record { answer = rw z refl; written = refl; tail = rw z refl }

-- no sync is in no set
none-finishes : (t : Table) (c : ℕ) → finishes (messages_of t) [] c ≡ false
unfolding finishes
none-finishes t c = sym (any_none t.count _ (λ s h. refl))

flag_set : (f : Bool) → yes? (cond f 1 0) ≡ true → f ≡ true
flag_set true e = refl
flag_set false e = e

-- what an event lists is what its subject shows, where it lists anything; and a finished sync's answer is that too
module _ (t : Table) (z : Sized t) where
  line-shown : (e : Event) (k : ℕ) → Accepted t e
      → line_of k (subject e) (sums (messages_of t) (effect_of t e).controller.applied) (take (effect_of t e).answer.size (effect_of t e).answer.names)
      ≡ line_of k (subject e) (panel_of (next t e) (subject e)).sums (names_of (messages_of t) (applied_by t e))
  unfolding line_of subject effect_of answer_of overlay applied_by next with_sent
  line-shown (Send c p) k q = rw (none_named t) refl
  line-shown (Handover d o) k q = rw (take-append_seam, sums-shown t d (after t (Handover d o)) z (subject_seated t (Handover d o) q)) refl
  line-shown (Stop c j) k q = rw (none_named t) refl

  sums_answered : (e : Event) → Accepted t e → (d : Effect) → d ≡ effect_of t e → SumsAnswered t d
  unfolding subject effect_of answer_of applied_by next with_sent
  sums_answered (Send c p) q d e f = absurd (true≢false (sym (flag_set _ (rw e at f)) ∙ none-finishes t c))
  sums_answered (Handover r o) q d e f =
      let finished : finishes (messages_of t) (set_at t r o) r ≡ true = flag_set _ (rw e at f) in
      rw (e, finished) (sym (sums-shown t r (after t (Handover r o)) z (subject_seated t (Handover r o) q)))
  sums_answered (Stop c k) q d e f = absurd (true≢false (sym (flag_set _ (rw e at f)) ∙ none-finishes t c))

-- FROM THE CODE

module _ (c : Cursor) (t : Table) (s l w : List ℕ) (b : Before c t s l) where
  abbrev so_far : Progress
  so_far = progress_of 0 c t l

  -- what is left of the listing
  abbrev space : ℕ
  space = length l - c.written

  lines_length : length (take c.written l) ≡ c.written
  lines_length = length-take-le c.written l b.within

  verdict-refused : (step t s (length w)).answer.refusal ≢ 0 → verdict so_far s (length w) (length l) ≡ (step t s (length w)).answer.refusal
  unfolding verdict first_no progress_of
  verdict-refused n = cond_false _ _ (ne_eqb _ 0 n)

  verdict-accepted : (step t s (length w)).answer.refusal ≡ 0
      → verdict so_far s (length w) (length l) ≡ first_no (line_fits (length (line_at so_far s (length w))) space ∷ [])
  unfolding verdict first_no progress_of
  verdict-accepted z = cond_true _ _ (eq-eqb _ 0 z) ∙ rw lines_length refl

  -- a refusal, by the record's questions or by question 16
  turn_ended : (k : Refusal) → verdict so_far s (length w) (length l) ≡ refusal_number k → (v : List ℕ) → v ≡ scratch_after (step t s (length w)).answer.refusal w
      → Turned c t s l w (Err k) c t l v
  unfolding turned progress_of overlay
  turn_ended k ek v ev =
      let q = advance-ended so_far s (length w) (length l) (λ z. refusal_is k (sym ek ∙ z)) in
      record {
        refusal = rw q (sym ek);
        used = tt;
        events = rw q refl;
        written = rw q (sym lines_length);
        stored = rw q refl;
        listed = rw q (sym (rw lines_length (take-append-drop c.written l)));
        clear = ev;
      }

  pub turn_refused : (k : Refusal) → refusal_number k ≡ first_no (step_questions t s (length w)) → Turned c t s l w (Err k) c t l w
  unfolding scratch_after
  turn_refused k e =
      let said = step-first_no t s (length w) ∙ sym e in
      let n : (step t s (length w)).answer.refusal ≢ 0 = λ z. refusal_is k (sym said ∙ z) in
      turn_ended k (verdict-refused n ∙ said) w (sym (cond_false _ _ (ne_eqb _ 0 n)))

  module _ (r : Record) (a : Accepts t s (length w) r) where
    accepted-said : (step t s (length w)).answer.refusal ≡ 0
    accepted-said = step-first_no t s (length w) ∙ a.passed

    scratch_said : (v : List ℕ) → v ≡ cleared w → v ≡ scratch_after (step t s (length w)).answer.refusal w
    unfolding scratch_after
    scratch_said v e = rw accepted-said e

    table_said : (y : Table) → y ≡ resulting t (decode t.version s) → y ≡ (step t s (length w)).table
    table_said y e = e ∙ sym (accepted_table t s (length w) accepted-said)

    -- a local read, which has no line
    module _ (o : ℕ) (reads : r.command ≡ Read o) where
      read_is : decode t.version s ≡ Read o
      read_is = sym a.command ∙ reads

      no_line-said : line_at so_far s (length w) ≡ []
      unfolding line_at accepted answering line_of progress_of
      no_line-said = rw (step_is_accepted t s (length w) a.passed, read_is) refl

      verdict-said : verdict so_far s (length w) (length l) ≡ 0
      unfolding first_no line_fits
      verdict-said = verdict-accepted accepted-said ∙ rw (no_line-said, le-leb 0 space (omega arith)) refl

      pub turn_read : (v : List ℕ) → v ≡ cleared w → Turned c t s l w (Ok r.used) (record { events = c.events + 1; written = c.written }) t l v
      unfolding turned progress_of overlay resulting
      turn_read v ev =
          let on = advance-gone so_far s (length w) (length l) verdict-said in
          record {
            refusal = rw on refl;
            used = a.used;
            events = rw on refl;
            written = rw (on, no_line-said, append-nil (take c.written l)) (sym lines_length);
            stored = rw on (table_said t (rw read_is refl));
            listed = rw (on, no_line-said, append-nil (take c.written l), lines_length) (sym (take-append-drop c.written l));
            clear = scratch_said v ev;
          }

    -- an event, which was carried out: d is its effect, and v is left of the scratch area
    module _ (e : Event) (acts : r.command ≡ Act e) (h : Both) (eh : h ≡ hand_of t.controllers r.command)
        (d : Effect) (v : List ℕ) (done : CarriesOut t e h.subject h.owner w d v) where
      event_is : decode t.version s ≡ Act e
      event_is = sym a.command ∙ acts

      event_allowed : Accepted t e
      event_allowed = allowed t s (length w) b.formed a.passed e event_is

      effected : Effected t e w d v
      effected = done.effected (allowed_hand t e event_allowed r.command acts h eh) (enough t s (length w) b.formed a.passed)

      leaves : Leaves t e d.controller
      unfolding effect_of
      leaves = (event_allowed, ap (λ (y : Effect). y.controller) effected.effect)

      pub event_answers : SumsAnswered t d
      event_answers = sums_answered t b.sized e event_allowed d effected.effect

      -- its line
      abbrev line_by : List ℕ
      line_by = line_of (c.events + 1) (subject e) (sums (messages_of t) d.controller.applied) (take d.answer.size d.answer.names)

      abbrev x : List ℕ
      x = line_at so_far s (length w)

      line-said : line_by ≡ x
      unfolding line_at accepted answering resulting controller_of progress_of
      line-said = rw (effected.effect, line-shown t b.sized e (c.events + 1) event_allowed, step_is_accepted t s (length w) a.passed, event_is) refl

      mid_is : mid_of c.written space l ≡ drop c.written l
      mid_is = part_rest c.written l

      wrote : (q : Result ℕ Refusal) (m : List ℕ) → Wrote line_by (mid_of c.written space l) m q → Wrote x (drop c.written l) m q
      wrote q m ew = rw (line-said, mid_is) at ew

      -- question 16 is the last one
      line_asked : (q : Result ℕ Refusal) (m : List ℕ) → Wrote x (drop c.written l) m q → verdict so_far s (length w) (length l) ≡ refusal_in q
      line_asked q m ew = verdict-accepted accepted-said ∙ sym (rw (length-drop c.written l) at ew.answer)

      pub turn_full : (k : Refusal) (m : List ℕ) → Wrote line_by (mid_of c.written space l) m (Err k)
          → Turned c t s l w (Err k) c t (put_mid c.written space l m) v
      unfolding tail_after first_no line_fits
      turn_full k m ew =
          let q = wrote (Err k) m ew in
          let out : leb (length x) (length (drop c.written l)) ≡ false = refuted _ (λ fits. refusal_is k (q.answer ∙ rw fits refl)) in
          let same : m ≡ mid_of c.written space l = q.tail ∙ cond_false _ _ out ∙ sym mid_is in
          let kept = ap (put_mid c.written space l) same ∙ put_same c.written space l in
          rw kept (turn_ended k (line_asked (Err k) m q) v (scratch_said v effected.clear))

      module _ (n : ℕ) (m : List ℕ) (ew : Wrote line_by (mid_of c.written space l) m (Ok n)) where
        q : Wrote x (drop c.written l) m (Ok n)
        q = wrote (Ok n) m ew

        fits : leb (length x) (length (drop c.written l)) ≡ true
        fits = fit (length x) (length (drop c.written l)) q.answer

        pub written_within : c.written + n ≤ length l
        written_within = omega (arith, q.written, leb-true (length x) (length (drop c.written l)) fits, length-drop c.written l, b.within)

        none_after : (xs : List ℕ) → xs ++ post_of c.written space l ≡ xs
        none_after xs =
            ap (λ (r : List ℕ). xs ++ r) (drop_of_length-le (drop c.written l) {i = space} (omega (arith, length-drop c.written l))) ∙ append-nil xs

        pub turn_listed : (y : Table) → Stores t e d.controller y
            → Turned c t s l w (Ok r.used) (record { events = c.events + 1; written = c.written + n }) y (put_mid c.written space l m) v
        unfolding turned tail_after progress_of resulting
        turn_listed y ey =
            let on = advance-gone so_far s (length w) (length l) (line_asked (Ok n) m q) in
            record {
              refusal = rw on refl;
              used = a.used;
              events = rw on refl;
              written = rw on (omega (arith, q.written, lines_length, length-append (take c.written l) x));
              stored = rw on (table_said y (ey.stored leaves ∙ rw event_is refl));
              listed = rw on
                  (ap (λ (r : List ℕ). take c.written l ++ r) (none_after m ∙ q.tail ∙ cond_true _ _ fits)
                  ∙ overlay-after c.written x l b.within);
              clear = scratch_said v effected.clear;
            }

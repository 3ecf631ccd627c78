-- The loop of a file run: what holds before each record, that a record keeps it, and what it says at the end. Assumes nothing.
use mathlib.Core.Path.{◌≡◌, refl, sym, ap, ◌∙◌}
use mathlib.Core.Logic.{◌≢◌}
use mathlib.Core.Bool.{true, cond}
use mathlib.Core.List.{List, [], ◌∷◌, ◌++◌}
use Prim.Native.Nat.{ℕ, ◌+◌, ◌-◌, ◌≤◌, ◌<◌}
use native.Mathlib.Omega.{arith}
use lib.ListN.{length, take, drop, length-drop, length-append}
use lib.Seq.{length-take-le, take-append_seam, drop-append_seam, drop-drop, drop-length}
use lib.Dec.{eqb}
use borrow.Author.Tests.{eqb-true, eq-eqb, ne_eqb, le-leb}
use Rattle.lists.specs.Build.{overlay}
use Rattle.lists.proofs.Tests.{cond_case, cond_true, cond_false}
use Rattle.lists.proofs.Build.{length_over, over-over, length-overlay}
use Rattle.std.specs.Prelude.{Result, Ok, Err}
use Rattle.model.specs.Tables.{scratch_size, start, fresh}
use Rattle.model.specs.Events.{names_below, names_of}
use Rattle.model.specs.Records.{byte, size, after_record, decode}
use Rattle.model.specs.Refusals.{refusal_number, refusal_in}
use Rattle.model.specs.Sized.{Sized}
use Rattle.model.specs.WellFormed.{well_formed}
use Rattle.model.specs.Questions.{first_no, line_fits, file_questions}
use Rattle.model.specs.Calls.{Outcome, answering, accepted, refused, step, cleared, scratch_after}
use Rattle.model.specs.Runs.{Progress, line_of, line_at, verdict, records, begun, progress, ran}
use Rattle.model.specs.declared.Table.{Table}
use Rattle.model.specs.declared.Command.{Command}
use Rattle.model.specs.declared.Command.TheVariants.{Act, Read}
use Rattle.model.specs.declared.refusal.Refusal.{Refusal}
use Rattle.model.proofs.Tested.{tested}
use Rattle.model.proofs.Allowed.{file_allowed}
use Rattle.model.proofs.Steps.{step_case, accepted_room}
use Rattle.model.proofs.Runs.{gone, ended, verdict_passed, advance_case, advance-verdict, advance-gone, records-none, fuel_suffices, records_turn}
use Rattle.model.proofs.Refused.{refusal_is}
use Rattle.invariant.proofs.Sizes.{fresh_sized}
use Rattle.invariant.proofs.Kept.{fresh_well_formed, step_kept}
use Rattle.files.specs.declared.Cursor.{Cursor}
use Rattle.files.specs.Turns.{opened_of, at_start, answer_at, progress_of, turned, Turned, Ran}

-- THE LISTING AND THE SCRATCH AREA

-- what was laid over first is covered by what is as long
overlay-over : (x y s : List ℕ) → length x ≤ length y → overlay y (overlay x s) ≡ overlay y s
unfolding overlay
overlay-over x y s h =
    let d = length y - length x in
    let e : length y ≡ length x + d = omega arith in
    ap (λ (r : List ℕ). y ++ r)
    (rw e (sym (drop-drop d (length x) (x ++ drop (length x) s)) ∙ (ap (drop d) (drop-append_seam x (drop (length x) s)) ∙ drop-drop d (length x) s)))

take-overlay : (x s : List ℕ) → take (length x) (overlay x s) ≡ x
unfolding overlay
take-overlay x s = take-append_seam x (drop (length x) s)

-- clearing twice is clearing once
cleared_again : (w : List ℕ) → scratch_size ≤ length w → cleared (cleared w) ≡ cleared w
unfolding cleared
cleared_again w h = over-over (λ i. 0) (λ i. 0) scratch_size w 0 h

length-cleared : (w : List ℕ) → length (cleared w) ≡ length w
unfolding cleared
length-cleared w = length_over (λ i. 0) scratch_size w

-- the scratch area after e events
abbrev leaves : ℕ → List ℕ → List ℕ
leaves e w = cond (eqb e 0) w (cleared w)

length_leaves : (e : ℕ) (w : List ℕ) → length (leaves e w) ≡ length w
length_leaves e w = cond_case (λ (v : List ℕ). length v ≡ length w) (eqb e 0) w (cleared w) (λ _. refl) (λ _. length-cleared w)

leaves_cleared : (e : ℕ) (w : List ℕ) → scratch_size ≤ length w → cleared (leaves e w) ≡ cleared w
leaves_cleared e w h = cond_case (λ (v : List ℕ). cleared v ≡ cleared w) (eqb e 0) w (cleared w) (λ _. refl) (λ _. cleared_again w h)

-- where no message was sent no line is listed
quiet_names : (t : Table) (a : Command) (r : List ℕ) → t.count ≡ 0 → (answering t a r).names ≡ []
unfolding answering names_of names_below
quiet_names t (Act e) r z = rw z refl
quiet_names t (Read c) r z = refl

step_quiet : (t : Table) (s : List ℕ) (room : ℕ) → t.count ≡ 0 → (step t s room).answer.names ≡ []
unfolding accepted refused
step_quiet t s room z = step_case t s room (λ (o : Outcome). o.answer.names ≡ []) (λ _. quiet_names t (decode t.version s) (after_record s) z) (λ _. refl)

quiet_fits : (p : Progress) (s : List ℕ) (room space : ℕ) → p.table.count ≡ 0 → (step p.table s room).answer.refusal ≡ 0 → verdict p s room space ≡ 0
unfolding verdict line_at line_of first_no line_fits
quiet_fits p s room space c z =
    cond_true _ _ (eq-eqb _ 0 z) ∙ rw (step_quiet p.table s room c) (cond_true 0 16 (le-leb 0 (space - length p.lines) (omega arith)))

-- THE INVARIANT

-- a run of the file s, lent l₀ and w₀, that has come to c with the table t, has b left of the file, and left l and w
pub record Running (s l₀ w₀ l w b : List ℕ) (c : Cursor) (t : Table) : Type 0 where
  pub sized : Sized t
  pub formed : well_formed t ≡ true
  pub within : c.written ≤ length l
  pub space : length l ≡ length l₀
  pub listing : l ≡ overlay (take c.written l) l₀
  pub scratch : w ≡ leaves c.events w₀
  pub unsent : c.events ≡ 0 → t.count ≡ 0
  pub few : c.events + length b ≤ 65535
  pub ahead : records (length b) (progress_of 0 c t l) b (length w₀) (length l₀) ≡ progress s (length w₀) (length l₀)

pub run_begins : (s l w : List ℕ) → first_no (file_questions s) ≡ 0 → (x : Table) → x ≡ opened_of s
    → (b : List ℕ) → b ≡ drop 2 s → (c : Cursor) → c ≡ at_start → Running s l w l w b c x
unfolding overlay fresh start progress begun progress_of
run_begins s l w q x ex b eb c ec =
    let a = file_allowed s q in
    rw (ex, eb, ec) (record {
      sized = fresh_sized (byte s 0) (byte s 1);
      formed = tested (fresh (byte s 0) (byte s 1)) (fresh_well_formed a.fresh);
      within = omega arith;
      space = refl;
      listing = refl;
      scratch = refl;
      unsent = λ _. refl;
      few = omega (arith, a.short, length-drop 2 s);
      ahead = fuel_suffices (length (drop 2 s)) (length s) (begun (byte s 0) (byte s 1)) (drop 2 s) (length w) (length l) (omega arith) (omega (arith, length-drop 2 s));
    })

-- a run that has come to what the definition says
run_done : (s l₀ w₀ l w : List ℕ) (k : ℕ) (c : Cursor) (t : Table) → progress_of k c t l ≡ progress s (length w₀) (length l₀)
    → c.written ≤ length l → l ≡ overlay (take c.written l) l₀ → w ≡ leaves c.events w₀ → Ran s l₀ w₀ (answer_at c k t) l w
unfolding ran progress_of answer_at
run_done s l₀ w₀ l w k c t e h el ew = record {
  outcome = rw (← e) (ap (λ (n : ℕ). record { refusal = k; events = c.events; written = n; table = t }) (sym (length-take-le c.written l h)));
  listed = rw (← e) el;
  clear = rw (← e) ew;
}

none_left : (b : List ℕ) → length b ≤ 0 → (p : Progress) (room space : ℕ) → records (length b) p b room space ≡ p
none_left [] h p room space = records-none 0 p room space
none_left (x ∷ xs) h p room space = absurd (omega arith)

module _ (s l₀ w₀ l w b : List ℕ) (c : Cursor) (t : Table) (r : Running s l₀ w₀ l w b c t) where
  scratch_size_lem : length w ≡ length w₀
  scratch_size_lem = ap length r.scratch ∙ length_leaves c.events w₀

  -- nothing is left
  pub run_ends : length b ≤ 0 → Ran s l₀ w₀ (answer_at c 0 t) l w
  run_ends h = run_done s l₀ w₀ l w 0 c t (sym (none_left b h _ _ _) ∙ r.ahead) r.within r.listing r.scratch

  -- ONE RECORD MORE

  module _ (h : 0 < length b) (a : Result ℕ Refusal) (c' : Cursor) (t' : Table) (m u : List ℕ) (d : Turned c t b l w a c' t' m u) where
    abbrev p : Progress
    p = progress_of 0 c t l

    -- the run after it, by the definition
    abbrev q : Progress
    q = turned c t b l (length w)

    verdict_is : verdict p b (length w) (length l) ≡ refusal_in a
    unfolding turned
    verdict_is = sym (d.refusal ∙ advance-verdict p b (length w) (length l))

    by_verdict : (P : Progress → Type 0) → (verdict p b (length w) (length l) ≡ 0 → P (gone p b (length w) (length l)))
        → (verdict p b (length w) (length l) ≢ 0 → P (ended p b (length w) (length l))) → P q
    unfolding turned
    by_verdict P f g = advance_case p b (length w) (length l) P f g

    lines_length : length p.lines ≡ c.written
    unfolding progress_of
    lines_length = length-take-le c.written l r.within

    -- the lines: those before stand first, and all fit
    lines_fit : length q.lines ≤ length l
    unfolding progress_of
    lines_fit =
        by_verdict (λ (g : Progress). length g.lines ≤ length l)
        (λ z. omega (arith, (verdict_passed p b (length w) (length l) z).1, length-append p.lines (line_at p b (length w)), lines_length, r.within))
        (λ _. omega (arith, lines_length, r.within))

    lines_grow : length (take c.written l) ≤ length q.lines
    unfolding progress_of
    lines_grow =
        by_verdict (λ (g : Progress). length (take c.written l) ≤ length g.lines)
        (λ _. omega (arith, length-append p.lines (line_at p b (length w)))) (λ _. omega arith)

    lines_are : take c'.written m ≡ q.lines
    lines_are = rw (d.written, d.listed) (take-overlay q.lines l)

    space_kept : length m ≡ length l
    space_kept = rw d.listed (length-overlay q.lines l lines_fit)

    within_kept : c'.written ≤ length m
    within_kept = omega (arith, d.written, lines_fit, space_kept)

    listing_is : m ≡ overlay (take c'.written m) l₀
    listing_is = d.listed ∙ (ap (overlay q.lines) r.listing ∙ overlay-over (take c.written l) q.lines l₀ lines_grow) ∙ rw (← lines_are) refl

    -- the scratch area: a line that does not fit is not the first event's, so it was clear already
    clear_kept : verdict p b (length w) (length l) ≢ 0 → scratch_after (step t b (length w)).answer.refusal w ≡ leaves c.events w₀
    unfolding scratch_after progress_of
    clear_kept n =
        let k = (step t b (length w)).answer.refusal in
        cond_case (λ (v : List ℕ). v ≡ leaves c.events w₀) (eqb k 0) (cleared w) w
        (λ o.
        let z = eqb-true k 0 o in
        let room = accepted_room t b (length w) z in
        let some : c.events ≢ 0 = λ e. n (quiet_fits p b (length w) (length l) (r.unsent e) z) in
        let clear = cond_false w₀ (cleared w₀) (ne_eqb c.events 0 some) in
        ap cleared (r.scratch ∙ clear) ∙ (cleared_again w₀ (omega (arith, scratch_size_lem)) ∙ sym clear))
        (λ _. r.scratch)

    clear_is : u ≡ leaves c'.events w₀
    unfolding scratch_after progress_of
    clear_is =
        d.clear
        ∙ by_verdict (λ (g : Progress). scratch_after (step t b (length w)).answer.refusal w ≡ leaves g.events w₀)
        (λ z.
        let passed = (verdict_passed p b (length w) (length l) z).0 in
        let room = accepted_room t b (length w) passed in
        rw passed (ap cleared r.scratch ∙ (leaves_cleared c.events w₀ (omega (arith, scratch_size_lem))
        ∙ sym (cond_false w₀ (cleared w₀) (ne_eqb (c.events + 1) 0 (λ o. omega arith))))))
        clear_kept
        ∙ rw (← d.events) refl

    progress_is : progress_of (refusal_in a) c' t' m ≡ q
    unfolding progress_of
    progress_is = rw (d.refusal, d.events, lines_are, d.stored) refl

    -- from the bytes left the run goes on
    ahead_is : (b' : List ℕ) → b' ≡ drop (cond (eqb (refusal_in a) 0) (size b + 1) (length b)) b
        → records (length b') (progress_of (refusal_in a) c' t' m) b' (length w₀) (length l₀) ≡ progress s (length w₀) (length l₀)
    unfolding turned
    ahead_is b' e =
        rw (progress_is, ← scratch_size_lem, ← r.space)
        (sym (records_turn p b (length w) (length l) h b' (rw d.refusal at e)) ∙ rw (scratch_size_lem, r.space) r.ahead)

  -- a refusal ends it
  pub run_stops : 0 < length b → (k : Refusal) (c' : Cursor) (t' : Table) (m u : List ℕ) → Turned c t b l w (Err k) c' t' m u
      → Ran s l₀ w₀ (answer_at c' (refusal_number k) t') m u
  run_stops h k c' t' m u d =
      let none : [] ≡ drop (cond (eqb (refusal_number k) 0) (size b + 1) (length b)) b = rw (ne_eqb _ 0 (refusal_is k)) (sym (drop-length b)) in
      run_done s l₀ w₀ m u (refusal_number k) c' t'
      (sym (records-none 0 _ _ _) ∙ ahead_is h (Err k) c' t' m u d [] none)
      (within_kept h (Err k) c' t' m u d) (listing_is h (Err k) c' t' m u d) (clear_is h (Err k) c' t' m u d)

  module _ (h : 0 < length b) (n : ℕ) (c' : Cursor) (t' : Table) (m u : List ℕ) (d : Turned c t b l w (Ok n) c' t' m u) (b' : List ℕ) (eb : b' ≡ drop n b) where
    left_is : b' ≡ drop (size b + 1) b
    left_is = eb ∙ ap (λ (k : ℕ). drop k b) d.used

    pub run_goes_on : Running s l₀ w₀ m u b' c' t'
    unfolding turned progress_of
    run_goes_on =
        let on = advance-gone (progress_of 0 c t l) b (length w) (length l) (verdict_is h (Ok n) c' t' m u d) in
        let events : c'.events ≡ c.events + 1 = d.events ∙ ap (λ (g : Progress). g.events) on in
        let table : t' ≡ (step t b (length w)).table = d.stored ∙ ap (λ (g : Progress). g.table) on in
        let kept = step_kept t b (length w) r.sized r.formed in
        let size_kept = space_kept h (Ok n) c' t' m u d in
        record {
          sized = rw table kept.0;
          formed = rw table kept.1;
          within = within_kept h (Ok n) c' t' m u d;
          space = size_kept ∙ r.space;
          listing = listing_is h (Ok n) c' t' m u d;
          scratch = clear_is h (Ok n) c' t' m u d;
          unsent = λ e. absurd (omega (arith, e, events));
          few = omega (arith, ap length left_is, length-drop (size b + 1) b, events, r.few, h);
          ahead = ahead_is h (Ok n) c' t' m u d b' left_is;
        }

-- What is printed is built in one text: the lines of the run, the header line before them, the end line after them. Assumes nothing.
use mathlib.Core.Path.{◌≡◌, refl, sym, ap, ap₂, ◌∙◌}
use mathlib.Core.Logic.{◌≢◌, ◌⊎◌, inl, inr}
use mathlib.Core.Bool.{Bool, true, false, ◌&&◌, cond}
use mathlib.Core.List.{List, [], ◌∷◌, ◌++◌, append_assoc}
use Prim.Native.Nat.{ℕ, zero, suc, ◌+◌, ◌-◌, ◌^◌, ◌≤◌, ◌<◌}
use native.Mathlib.Nat.{le_of_suc-le-suc}
use native.Mathlib.Omega.{arith}
use lib.ListN.{length, take, drop, length-append, length-drop, length-take, take-append-drop}
use lib.Seq.{take-append_seam, drop-append_seam, drop-drop, length-take-le}
use lib.Dec.{eqb, leb}
use borrow.Author.Tests.{le-leb, lt-leb, eq-eqb, ne_eqb, eqb-true, eqb-false}
use borrow.Rule.Slice.PartMut.{mid_of, put_mid, same_len_mid}
use Rattle.std.specs.Prelude.{Result, Ok, Err}
use Rattle.std.specs.Result.{IsOk}
use Rattle.lists.specs.Build.{overlay}
use Rattle.lists.proofs.Build.{length-overlay}
use Rattle.lists.proofs.Tests.{cond_case, cond_true, cond_false, by_contradiction, contradiction}
use Rattle.model.specs.Tables.{scratch_size, zero_table}
use Rattle.model.specs.Records.{byte, after_record}
use Rattle.model.specs.Questions.{Question, first_no, fresh_questions, file_questions, line_fits}
use Rattle.model.specs.Calls.{step}
use Rattle.model.specs.Runs.{header, footer, Progress, RunOutcome, line_at, verdict, records, begun, progress, ran, file_run}
use Rattle.model.specs.declared.Table.{Table}
use Rattle.model.specs.declared.refusal.Refusal.{Refusal}
use Rattle.model.specs.declared.RunAnswer.{RunAnswer}
use Rattle.model.proofs.Decimals.{decimal_one}
use Rattle.model.proofs.Lengths.{footer_bound}
use Rattle.model.proofs.Allowed.{file_allowed}
use Rattle.model.proofs.Steps.{step-first_no, file_run_ran}
use Rattle.model.proofs.Runs.{gone, advance_case}
use Rattle.invariant.proofs.Refusals.{step_refusals}
use Rattle.invariant.proofs.Listing.{listing_fits}
use Rattle.model.proofs.Refused.{refusal_is}
use Rattle.listing.specs.Writing.{tail_after, Wrote}
use Rattle.panels.specs.Printed.{header_size, listing_size, footer_size, text_size, printed}

-- TEXTS LAID ONE AFTER THE OTHER

-- x laid over the front of l makes t, and ends at k
pub record Laid (x l t : List ℕ) (k : ℕ) : Type 0 where
  pub text : t ≡ overlay x l
  pub end : k ≡ length x

-- a line that fits is written
pub line_ok : {x l t : List ℕ} (q : Result ℕ Refusal) → length x ≤ length l → Wrote x l t q → IsOk q
unfolding first_no line_fits
line_ok (Ok n) h w = refl
line_ok {x} {l} (Err k) h w = absurd (refusal_is k (w.answer ∙ cond_true _ _ (le-leb (length x) (length l) h)))

laid_line : {x l t : List ℕ} {n : ℕ} → length x ≤ length l → Wrote x l t (Ok n) → Laid x l t n
unfolding tail_after
laid_line {x} {l} h w = record { text = w.tail ∙ cond_true _ _ (le-leb (length x) (length l) h); end = w.written }

laid_read : {x l t : List ℕ} {k : ℕ} → Laid x l t k → take k t ≡ x
unfolding overlay
laid_read {x} {l} {t} {k} p = rw (p.end, p.text) (take-append_seam x (drop (length x) l))

-- the text itself
laid_self : (k : ℕ) (l : List ℕ) → k ≤ length l → Laid (take k l) l l k
unfolding overlay
laid_self k l h = record { text = rw (length-take-le k l h) (sym (take-append-drop k l)); end = sym (length-take-le k l h) }

drop-take : (i k : ℕ) (z : List ℕ) → i ≤ k → drop i (take k z) ++ drop k z ≡ drop i z
drop-take zero k z h = take-append-drop k z
drop-take (suc i) zero z h = absurd (omega arith)
drop-take (suc i) (suc k) [] h = refl
drop-take (suc i) (suc k) (y ∷ z) h = drop-take i k z (le_of_suc-le-suc h)

part_laid : (x y l : List ℕ) (j : ℕ) → length y ≤ j
    → put_mid (length x) j (overlay x l) (overlay y (mid_of (length x) j (overlay x l))) ≡ overlay (x ++ y) l
unfolding overlay
part_laid x y l j h =
    rw (take-append_seam x (drop (length x) l), drop-append_seam x (drop (length x) l), append_assoc y, drop-take (length y) j (drop (length x) l) h, drop-drop (length y) (length x) l, ← length-append x y)
    (sym (append_assoc x y _))

-- y laid over the j bytes after x, which are then m
laid_after : {x l t : List ℕ} {k : ℕ} (y m : List ℕ) (j : ℕ) → length y ≤ j → Laid x l t k → m ≡ overlay y (mid_of k j t)
    → Laid (x ++ y) l (put_mid k j t m) (k + length y)
laid_after {x} {l} {t} {k} y m j h p e = record {
  text = rw (e, p.text, p.end) (part_laid x y l j h);
  end = omega (arith, p.end, length-append x y);
}

-- another text of the same length laid over the first of two
laid_before : (g h y l t : List ℕ) (k : ℕ) → length g ≡ length h → Laid (g ++ y) l t k → Laid (h ++ y) l (overlay h t) k
unfolding overlay
laid_before g h y l t k e p =
    let same : length (g ++ y) ≡ length (h ++ y) = omega (arith, length-append g y, length-append h y) in
    record {
      text = rw (p.text, ← e, append_assoc g y, drop-append_seam g, same) (sym (append_assoc h y _));
      end = p.end ∙ same;
    }

-- THE NUMBER OF A REFUSAL: questions 1 to 3 refuse a file, and later ones a record

abbrev pub early : ℕ → Bool
early k = leb 1 k && leb k 3

abbrev Early : ℕ → Type 0
Early k = k ≢ 0 → early k ≡ true

abbrev Earlies : List Question → Type 0
Earlies [] = Unit {0}
Earlies (q ∷ qs) = (early q.number ≡ true) × Earlies qs

abbrev Late : ℕ → Type 0
Late k = (k ≡ 0) ⊎ (3 < k)

late_not_early : (k : ℕ) → Late k → early k ≡ false
late_not_early k (inl z) = rw z refl
late_not_early k (inr h) = and_none (leb 1 k) (lt-leb k 3 h)
  where
    and_none : (b : Bool) {c : Bool} → c ≡ false → (b && c) ≡ false
    and_none true e = e
    and_none false e = refl

first_early : (qs : List Question) → Earlies qs → Early (first_no qs)
unfolding first_no
first_early [] w = λ n. absurd (n refl)
first_early (q ∷ qs) w = cond_case Early q.yes (first_no qs) q.number (λ _. first_early qs w.1) (λ _ _. w.0)

file_early : (s : List ℕ) → Early (first_no (file_questions s))
unfolding file_questions fresh_questions
file_early s = first_early (file_questions s) (refl, (refl, (refl, tt)))

step_late : (t : Table) (s : List ℕ) (room : ℕ) → Late (step t s room).answer.refusal
step_late t s room = elim (step_refusals t s room) [
  | inl z ↦ inl (step-first_no t s room ∙ z)
  | inr k ↦ inr (omega (arith, step-first_no t s room))
]

verdict_late : (p : Progress) (s : List ℕ) (room space : ℕ) → Late (verdict p s room space)
unfolding verdict first_no line_fits
verdict_late p s room space =
    let k = (step p.table s room).answer.refusal in
    let fits = leb (length (line_at p s room)) (space - length p.lines) in
    cond_case Late (eqb k 0) (cond fits 0 16) k (λ _. cond_case Late fits 0 16 (λ _. inl refl) (λ _. inr (omega arith))) (λ _. step_late p.table s room)

records_late : (f : ℕ) (p : Progress) (s : List ℕ) (room space : ℕ) → Late p.refusal → Late (records f p s room space).refusal
unfolding records
records_late zero p s room space h = h
records_late (suc f) p [] room space h = h
records_late (suc f) p (b ∷ s) room space h =
    advance_case p (b ∷ s) room space (λ q. Late (cond (eqb q.refusal 0) (records f q (after_record (b ∷ s)) room space) q).refusal)
    (λ _. records_late f (gone p (b ∷ s) room space) (after_record (b ∷ s)) room space (inl refl))
    (λ d. rw (ne_eqb (verdict p (b ∷ s) room space) 0 d) (verdict_late p (b ∷ s) room space))

progress_late : (s : List ℕ) (room space : ℕ) → Late (progress s room space).refusal
unfolding progress begun
progress_late s room space = records_late (length s) (begun (byte s 0) (byte s 1)) (drop 2 s) room space (inl refl)

header-size : (n : ℕ) → n < 10 → length (header n) ≡ header_size
unfolding header
header-size n h = rw (decimal_one n h)

-- WHAT A RUN ANSWERS to the file s

abbrev lent : List ℕ → Progress
lent s = progress s scratch_size listing_size

-- no file fills the listing: question 16 refuses no record of it
pub never_16 : (s : List ℕ) → first_no (file_questions s) ≡ 0 → (lent s).refusal ≢ 16
never_16 s e = (listing_fits s scratch_size listing_size e (omega arith)).0

-- a file that questions 1 to 3 refuse, and any other
pub record Refused (s : List ℕ) (r : RunAnswer) : Type 0 where
  pub asked : first_no (file_questions s) ≢ 0
  pub events : r.events ≡ 0
  pub refusal : r.refusal ≡ first_no (file_questions s)

pub record Passed (s : List ℕ) : Type 0 where
  pub asked : first_no (file_questions s) ≡ 0
  pub few : byte s 1 < 10

-- the run's refusal tells them apart
module _ (s l w : List ℕ) (r : RunAnswer) (e : r ≡ (file_run s l w).answer) where
  passed_late : first_no (file_questions s) ≡ 0 → early r.refusal ≡ false
  unfolding ran
  passed_late z =
      late_not_early r.refusal
      (rw (ap (λ (a : RunAnswer). a.refusal) e ∙ ap (λ (o : RunOutcome). o.answer.refusal) (file_run_ran s l w z)) (progress_late s (length w) (length l)))

  refused_answer : first_no (file_questions s) ≢ 0 → r ≡ record { refusal = first_no (file_questions s); events = 0; written = 0; table = zero_table }
  unfolding file_run
  refused_answer d = e ∙ ap (λ (o : RunOutcome). o.answer) (cond_false _ _ (ne_eqb (first_no (file_questions s)) 0 d))

  pub early_refused : early r.refusal ≡ true → Refused s r
  early_refused y =
      let d : first_no (file_questions s) ≢ 0 = λ q. contradiction y (passed_late q) in
      record { asked = d; events = ap (λ (a : RunAnswer). a.events) (refused_answer d); refusal = ap (λ (a : RunAnswer). a.refusal) (refused_answer d) }

  pub late_passed : early r.refusal ≡ false → Passed s
  late_passed y =
      let k = first_no (file_questions s) in
      let z = eqb-true k 0 (by_contradiction (eqb k 0) (λ n.
      let d = eqb-false k 0 n in
      contradiction (file_early s d) (ap early (sym (ap (λ (a : RunAnswer). a.refusal) (refused_answer d))) ∙ y))) in
      record { asked = z; few = omega (arith, (file_allowed s z).fresh.few) }

-- THE TEXT, which was l, with x and the lines of the run in it; the run has answered r

pub record Holds (x s l t : List ℕ) (r : RunAnswer) : Type 0 where
  pub laid : Laid (x ++ (lent s).lines) l t (header_size + r.written)
  pub short : r.written ≤ listing_size
  pub size : length t ≡ text_size
  pub events : r.events ≡ (lent s).events
  pub refusal : r.refusal ≡ (lent s).refusal

-- the lines stand after the place of the header line
pub has_lines : (s l w m : List ℕ) (j : ℕ) (r : RunAnswer) → first_no (file_questions s) ≡ 0 → length l ≡ text_size → length w ≡ scratch_size → j ≡ listing_size
    → r ≡ (file_run s (mid_of header_size j l) w).answer → m ≡ (file_run s (mid_of header_size j l) w).listing → length m ≡ length (mid_of header_size j l)
    → Holds (take header_size l) s l (put_mid header_size j l m) r
unfolding ran overlay
has_lines s l w m j r z ll lw ej er em same =
    let x = mid_of header_size j l in
    let part : length x ≡ listing_size = omega (arith, length-take j (drop header_size l), length-drop header_size l) in
    let run : file_run s x w ≡ ran (lent s) x w = file_run_ran s x w z ∙ ap₂ (λ (room space : ℕ). ran (progress s room space) x w) lw part in
    let answer : r ≡ (ran (lent s) x w).answer = er ∙ ap (λ (o : RunOutcome). o.answer) run in
    let listing : m ≡ overlay (lent s).lines x = em ∙ ap (λ (o : RunOutcome). o.listing) run in
    let written : r.written ≡ length (lent s).lines = ap (λ (a : RunAnswer). a.written) answer in
    let few : length (lent s).lines ≤ listing_size = omega (arith, ap length listing, length-append (lent s).lines (drop (length (lent s).lines) x)) in
    record {
      laid = rw written (laid_after (lent s).lines m j (omega arith) (laid_self header_size l (omega arith)) listing);
      short = omega arith;
      size = same_len_mid header_size j l m same ∙ ll;
      events = ap (λ (a : RunAnswer). a.events) answer;
      refusal = ap (λ (a : RunAnswer). a.refusal) answer;
    }

-- the header line takes that place
pub header_fits : (s l t : List ℕ) (r : RunAnswer) (n : ℕ) → n ≡ byte s 1 → Passed s → Holds (take header_size l) s l t r → length (header n) ≤ length t
header_fits s l t r n en p h = omega (arith, header-size n (omega (arith, en, p.few)), h.size)

pub has-header : (s l t u : List ℕ) (r : RunAnswer) (q n : ℕ) → n ≡ byte s 1 → length l ≡ text_size → Passed s → Holds (take header_size l) s l t r → Wrote (header n) t u (Ok q)
    → Holds (header (byte s 1)) s l u r
has-header s l t u r q n en ll p h w =
    let x = header n in
    let size = header-size n (omega (arith, en, p.few)) in
    let front = laid_line (header_fits s l t r n en p h) w in
    let whole = laid_before (take header_size l) x (lent s).lines l t (header_size + r.written) (length-take-le header_size l (omega arith) ∙ sym size) h.laid in
    record {
      laid = rw (← front.text, en) at whole;
      short = h.short;
      size = ap length front.text ∙ length-overlay x t (omega (arith, h.size)) ∙ h.size;
      events = h.events;
      refusal = h.refusal;
    }

-- THE END LINE, of q bytes

module _ (s : List ℕ) (r : RunAnswer) (be : r.events < 2 ^ 64) (bn : r.refusal < 256) (t : List ℕ) where
  -- after the lines
  module _ (l : List ℕ) (h : Holds (header (byte s 1)) s l t r) where
    abbrev k : ℕ
    k = header_size + r.written

    pub footer_fits : length (footer r.events r.refusal) ≤ length (mid_of k (length t - k) t)
    footer_fits = omega (arith, footer_bound r.events r.refusal be bn, length-take (length t - k) (drop k t), length-drop k t, h.short, h.size)

    module _ (v : List ℕ) (q : ℕ) (w : Wrote (footer r.events r.refusal) (mid_of k (length t - k) t) v (Ok q)) where
      pub footer_short : q ≤ footer_size
      footer_short = omega (arith, (laid_line footer_fits w).end, footer_bound r.events r.refusal be bn)

      pub has_end : first_no (file_questions s) ≡ 0 → take (k + q) (put_mid k (length t - k) t v) ≡ printed s
      unfolding printed
      has_end z =
          let x = footer r.events r.refusal in
          let j = length t - k in
          let p = laid_line footer_fits w in
          let whole = laid_after x v j (omega (arith, footer_bound r.events r.refusal be bn, h.short, h.size)) h.laid p.text in
          ap (λ (i : ℕ). take (k + i) (put_mid k j t v)) p.end ∙ laid_read whole
          ∙ append_assoc (header (byte s 1)) (lent s).lines x
          ∙ rw (h.events, h.refusal) (sym (cond_true _ _ (eq-eqb (first_no (file_questions s)) 0 z)))

  -- alone, of a file that was refused
  module _ (size : length t ≡ text_size) where
    pub alone_fits : length (footer r.events r.refusal) ≤ length t
    alone_fits = omega (arith, footer_bound r.events r.refusal be bn, size)

    pub only_end : Refused s r → (v : List ℕ) (q : ℕ) → Wrote (footer r.events r.refusal) t v (Ok q) → take q v ≡ printed s
    unfolding printed
    only_end d v q w =
        laid_read (laid_line alone_fits w)
        ∙ rw (d.events, d.refusal) (sym (cond_false _ _ (ne_eqb (first_no (file_questions s)) 0 d.asked)))

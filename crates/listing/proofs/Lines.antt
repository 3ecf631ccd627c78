-- The parts of a line: the library prints a number in decimal, and what the parts are one after the other. Assumes nothing.
use mathlib.Core.Path.{◌≡◌, refl, sym, ap, ◌∙◌}
use mathlib.Core.List.{List, [], ◌∷◌, ◌++◌, append-nil, append_assoc}
use Prim.Native.Nat.{ℕ, ◌+◌, ◌%◌, ◌^◌, ◌≤◌, ◌<◌}
use native.Mathlib.Numerals.{add-one}
use native.Mathlib.Omega.{arith}
use borrow.Author.Tests.{le-leb, lt-leb}
use lib.ListN.{length, get_or, take, drop}
use lib.Seq.{take-suc}
use Rattle.std.specs.Prelude.{Result, Ok, Err}
use Rattle.std.specs.Fmt as fmt
use Rattle.std.proofs.lemmas.Fmt.{decimal_digit, decimal_step}
use Rattle.lists.specs.Build.{overlay}
use Rattle.model.specs.Questions.{first_no, line_fits}
use Rattle.model.specs.Tables.{no_name}
use Rattle.model.specs.Runs.{decimal, sum_fields, name_fields, line, footer}
use Rattle.model.specs.declared.Name.{Name}
use Rattle.model.specs.declared.Sums.{Sums}
use Rattle.model.specs.declared.refusal.Refusal.{Refusal}
use Rattle.model.specs.declared.refusal.Refusal.TheVariants.{Listing}
use Rattle.model.proofs.Refused.{refusal_is}
use Rattle.model.proofs.Decimals.{by_decimal}
use Rattle.listing.specs.Writing.{tail_after, Wrote}

-- A NUMBER, as the library prints it: the number without its last digit, and the last digit

pub printed : (x : ℕ) → x < 2 ^ 64 → fmt.decimal x ≡ decimal x
printed x h =
    by_decimal (λ x s. x < 2 ^ 64 → fmt.decimal x ≡ s) (λ x l h. decimal_digit x l)
    (λ x s l r h. decimal_step x l h ∙ ap (λ (d : List ℕ). d ++ ((48 + x % 10) ∷ [])) (r (omega arith))) x h

-- PARTS, one after the other

pub part_then : (s x y : List ℕ) {z t u : List ℕ} → t ≡ s ++ x → u ≡ t ++ y → x ++ y ≡ z → u ≡ s ++ z
part_then s x y p q e = rw (q, p, append_assoc s x y, e) refl

pub sums_printed : (z : Sums) → z.added < 2 ^ 64 → z.withdrawn < 2 ^ 64 → (32 ∷ fmt.decimal z.added) ++ (32 ∷ fmt.decimal z.withdrawn) ≡ sum_fields z
unfolding sum_fields
sums_printed z a w = rw (printed z.added a, printed z.withdrawn w) refl

pub name_printed : (m : Name) → m.sender < 2 ^ 64 → m.number.0 < 2 ^ 64 → (32 ∷ fmt.decimal m.sender) ++ (46 ∷ fmt.decimal m.number.0) ≡ name_fields (m ∷ [])
unfolding name_fields
name_printed m s k = rw (printed m.sender s, printed m.number.0 k) (simp append-nil)

pub line_printed : (e c : ℕ) (z : Sums) (ms : List Name) → e < 2 ^ 64 → c < 2 ^ 64
    → line e c z ms ≡ (((fmt.decimal e ++ (32 ∷ fmt.decimal c)) ++ sum_fields z) ++ name_fields ms) ++ (10 ∷ [])
unfolding line
line_printed e c z ms h k = rw (printed e h, printed c k) (simp append_assoc)

footer-parts : (e k : ℕ) → (((101 ∷ 110 ∷ 100 ∷ 32 ∷ []) ++ decimal e) ++ (32 ∷ decimal k)) ++ (10 ∷ []) ≡ footer e k
unfolding footer
footer-parts e k = simp append_assoc

pub footer_printed : (e k : ℕ) → e < 2 ^ 64 → k < 2 ^ 64
    → footer e k ≡ (((101 ∷ 110 ∷ 100 ∷ 32 ∷ []) ++ fmt.decimal e) ++ (32 ∷ fmt.decimal k)) ++ (10 ∷ [])
footer_printed e k h l = rw (printed e h, printed k l) (sym (footer-parts e k))

-- THE NAMES, one more of them

fields_append : (xs ys : List Name) → name_fields (xs ++ ys) ≡ name_fields xs ++ name_fields ys
unfolding name_fields
fields_append [] ys = refl
fields_append (m ∷ xs) ys = rw (fields_append xs ys) (simp append_assoc)

pub fields_more : (names : List Name) (i : ℕ) → i < length names
    → name_fields (take (i + 1) names) ≡ name_fields (take i names) ++ name_fields (get_or names i no_name ∷ [])
fields_more names i h = rw (add-one, take-suc names i no_name h) (fields_append (take i names) (get_or names i no_name ∷ []))

-- QUESTION 16: a line that fits, and one that does not, and what is answered of one that fits

pub line_written : (x s : List ℕ) → length x ≤ length s → Wrote x s (x ++ drop (length x) s) (Ok (length x))
unfolding tail_after overlay first_no line_fits
line_written x s h = let fits = le-leb (length x) (length s) h in record { answer = rw fits refl; written = refl; tail = rw fits refl }

pub line_refused : (x s : List ℕ) → length s < length x → Wrote x s s (Err Listing)
unfolding tail_after first_no line_fits
line_refused x s h = let long = lt-leb (length x) (length s) h in record { answer = rw long refl; written = tt; tail = rw long refl }

pub fitting_answer : (x s t : List ℕ) (r : Result ℕ Refusal) → length x ≤ length s → Wrote x s t r → r ≡ Ok (length x)
unfolding first_no line_fits
fitting_answer x s t (Ok n) h w = rw w.written refl
fitting_answer x s t (Err k) h w = absurd (refusal_is k (w.answer ∙ rw (le-leb (length x) (length s) h) refl))

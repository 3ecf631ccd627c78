-- The reader of listing lines gives back the sets and the sums that the lines were written for. Assumes nothing.
use Prim.Native.Nat.{ℕ, ◌<◌}
use mathlib.Core.Path.{◌≡◌, refl, sym, ap, ap₂, ◌∙◌}
use mathlib.Core.Bool.{cond}
use mathlib.Core.List.{List, [], ◌∷◌, ◌++◌, map, append-nil, append_assoc}
use mathlib.Core.Logic.{◌≢◌}
use native.Mathlib.Omega.{arith}
use lib.Dec.{eqb}
use borrow.Author.Tests.{eqb-true}
use Rattle.lists.proofs.Tests.{cond_case}
use Rattle.lists.specs.Every.{Every}
use Rattle.lists.proofs.Every.{every_append}
use Rattle.model.specs.Runs.{decimal, name_fields, sum_fields, line, line_of}
use Rattle.model.specs.declared.Name.{Name}
use Rattle.model.specs.declared.Sums.{Sums}
use Rattle.consistency.specs.Lines.{split, number_from, name_in, line_in, no_line, line_for}
use Rattle.consistency.specs.Courses.{line_saying}
use Rattle.consistency.proofs.Decimal.{Lacks, lacks_joined, decimal_lacks, decimal_number, split-at-first, split-whole}

-- ONE LINE

-- a name as it stands in a line
unfoldable pub field : Name → List ℕ
field m = decimal m.sender ++ (46 ∷ decimal m.number.0)

-- a line without its end
unfoldable pub body : ℕ → ℕ → Sums → List Name → List ℕ
body e c z ms = decimal e ++ (32 ∷ decimal c ++ (sum_fields z ++ name_fields ms))

field_lacks : (m : Name) (k : ℕ) → k < 46 → Lacks k (field m)
unfolding field
field_lacks m k h =
    lacks_joined k 46 _ _ (omega arith) (decimal_lacks m.sender k (omega arith)) (decimal_lacks m.number.0 k (omega arith))

pub name_read_back : (m : Name) → name_in (field m) ≡ m
unfolding name_in field
name_read_back m =
    let a = m.sender in
    let k = m.number.0 in
    rw (split-at-first 46 (decimal a) (decimal k) (decimal_lacks a 46 (omega arith)), split-whole 46 (decimal k) (decimal_lacks k 46 (omega arith)))
    (rw (decimal_number a, decimal_number k))

pub names_read_back : (ms : List Name) → map name_in (map field ms) ≡ ms
names_read_back [] = refl
names_read_back (m ∷ ms) = ap₂ ◌∷◌ (name_read_back m) (names_read_back ms)

fields_split : (p : List ℕ) (ms : List Name) → Lacks 32 p → split 32 (p ++ name_fields ms) ≡ p ∷ map field ms
unfolding name_fields field
fields_split p [] h = rw append-nil (split-whole 32 p h)
fields_split p (m ∷ ms) h =
    split-at-first 32 p _ h
    ∙ ap (λ r. p ∷ r) (ap (split 32) (sym (append_assoc (decimal m.sender) (46 ∷ decimal m.number.0) (name_fields ms)))
    ∙ fields_split (field m) ms (field_lacks m 32 (omega arith)))

sums_first : (z : Sums) (s : List ℕ) → sum_fields z ++ s ≡ 32 ∷ decimal z.added ++ (32 ∷ decimal z.withdrawn ++ s)
unfolding sum_fields
sums_first z s = ap (λ r. 32 ∷ r) (append_assoc (decimal z.added) (32 ∷ decimal z.withdrawn) s)

-- a number, and what stands after the next space
number_first : (x : ℕ) (s : List ℕ) (fs : List (List ℕ)) → split 32 s ≡ fs → split 32 (decimal x ++ (32 ∷ s)) ≡ decimal x ∷ fs
number_first x s fs e = split-at-first 32 (decimal x) s (decimal_lacks x 32 (omega arith)) ∙ ap (λ r. decimal x ∷ r) e

pub line_fields : (e c : ℕ) (z : Sums) (ms : List Name)
    → split 32 (body e c z ms) ≡ decimal e ∷ decimal c ∷ decimal z.added ∷ decimal z.withdrawn ∷ map field ms
unfolding body
line_fields e c z ms =
    rw (sums_first z (name_fields ms))
    (number_first e _ _ (number_first c _ _ (number_first z.added _ _ (fields_split (decimal z.withdrawn) ms (decimal_lacks z.withdrawn 32 (omega arith))))))

fields_lack : (ms : List Name) (k : ℕ) → k < 32 → Lacks k (name_fields ms)
unfolding name_fields Every
fields_lack [] k h = tt
fields_lack (m ∷ ms) k h = (
  omega arith,
  lacks_joined k 46 (decimal m.sender) (decimal m.number.0 ++ name_fields ms) (omega arith) (decimal_lacks m.sender k (omega arith))
      (every_append (λ b. b ≢ k) (decimal m.number.0) (name_fields ms) (decimal_lacks m.number.0 k (omega arith)) (fields_lack ms k h)),
)

number_lacks : (x k : ℕ) (s : List ℕ) → k < 32 → Lacks k s → Lacks k (decimal x ++ (32 ∷ s))
number_lacks x k s h = lacks_joined k 32 (decimal x) s (omega arith) (decimal_lacks x k (omega arith))

body_lacks : (e c : ℕ) (z : Sums) (ms : List Name) (k : ℕ) → k < 32 → Lacks k (body e c z ms)
unfolding body
body_lacks e c z ms k h =
    rw (sums_first z (name_fields ms))
    (number_lacks e k _ h (number_lacks c k _ h (number_lacks z.added k _ h
    (every_append (λ b. b ≢ k) (decimal z.withdrawn) (name_fields ms) (decimal_lacks z.withdrawn k (omega arith)) (fields_lack ms k h)))))

line_body : (e c : ℕ) (z : Sums) (ms : List Name) (s : List ℕ) → line e c z ms ++ s ≡ body e c z ms ++ (10 ∷ s)
unfolding line body
line_body e c z ms s = simp append_assoc

pub line-split : (e c : ℕ) (z : Sums) (ms : List Name) (s : List ℕ) → split 10 (line e c z ms ++ s) ≡ body e c z ms ∷ split 10 s
line-split e c z ms s = rw line_body (split-at-first 10 (body e c z ms) s (body_lacks e c z ms 10 (omega arith)))

-- WHAT IS READ

pub saying_set : (z : Sums) (ms : List Name) → (line_saying z ms).set ≡ ms
unfolding line_saying
saying_set z [] = refl
saying_set z (m ∷ ms) = refl

pub saying_sums : (z : Sums) (ms : List Name) → ms ≢ [] → (line_saying z ms).sums ≡ z
unfolding line_saying
saying_sums z [] some = absurd (some refl)
saying_sums z (m ∷ ms) some = refl

-- a line is read where it is the one of event n, and otherwise a later one
line_read : (n e c : ℕ) (z : Sums) (ms : List Name) (s : List ℕ)
    → line_for n (split 10 (line e c z ms ++ s)) ≡ cond (eqb e n) (record { set = ms; sums = z }) (line_for n (split 10 s))
unfolding line_for line_in
line_read n e c z ms s =
    rw (line-split e c z ms s, line_fields e c z ms)
    (rw (decimal_number e, decimal_number z.added, decimal_number z.withdrawn, names_read_back ms))

-- so also of an event without a line, where no later line is its own
pub event_read : (n e c : ℕ) (z : Sums) (ms : List Name) (s : List ℕ) → (e ≡ n → line_for n (split 10 s) ≡ no_line)
    → line_for n (split 10 (line_of e c z ms ++ s)) ≡ cond (eqb e n) (line_saying z ms) (line_for n (split 10 s))
unfolding line_of line_saying
event_read n e c z [] s none = cond_case (λ x. line_for n (split 10 s) ≡ x) (eqb e n) no_line _ (λ q. none (eqb-true e n q)) (λ _. refl)
event_read n e c z (m ∷ ms) s none = line_read n e c z (m ∷ ms) s

-- after the last line
pub end_read : (n : ℕ) → line_for n (split 10 []) ≡ no_line
unfolding line_for line_in split number_from
end_read n = cond_case (λ x. x ≡ no_line) (eqb 0 n) no_line no_line (λ _. refl) (λ _. refl)

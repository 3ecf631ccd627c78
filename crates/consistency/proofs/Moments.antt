-- The entries of a list stand for legal steps one after another, and after every step the table, the ledger and a state of the abstract
-- system say the same. Assumes nothing.
use mathlib.Core.Path.{◌≡◌, refl, ap, ◌∙◌}
use mathlib.Core.List.{List, [], ◌∷◌, ◌++◌, append_assoc, flat_map, foldl}
use Prim.Native.Nat.{ℕ}
use lib.ListN.{length}
use borrow.Author.Tests.{ne_eqb}
use Rattle.model.specs.Tables.{fresh, with_controller, with_message}
use Rattle.model.specs.Events.{with_sent, next, resulting}
use Rattle.model.specs.Records.{after_record, decode}
use Rattle.model.specs.WellFormed.{well_formed}
use Rattle.model.specs.Questions.{FreshAllowed, first_no, event_questions, command_questions, lent_table, step_questions}
use Rattle.model.specs.Calls.{EventAnswer, Outcome, answering, accepted, refused, event}
use Rattle.turns.specs.Dispatcher.{handover}
use Rattle.model.specs.declared.Pair.{Pair}
use Rattle.model.specs.declared.Table.{Table}
use Rattle.model.specs.declared.Event.{Event}
use Rattle.model.specs.declared.Event.TheVariants.{Send, Handover, Stop}
use Rattle.model.specs.declared.Command.{Command}
use Rattle.model.specs.declared.Command.TheVariants.{Act, Read}
use Rattle.model.proofs.Allowed.{no_no, step_asked}
use Rattle.model.proofs.Steps.{answering-accepted, settled_case}
use Rattle.broadcast.specs.State.{State, fresh as fresh_state}
use Rattle.broadcast.specs.Events.{Run, start as stays, then}
use Rattle.consistency.specs.Entries.{Entry, answered, observed, served, handed, listed, said, nothing_said, Step, carried, steps_of, steps, did}
use Rattle.consistency.specs.Ledger.{Ledger, start, moved}
use Rattle.consistency.specs.Courses.{Course, told, Gives}
use Rattle.consistency.proofs.Bridge.{top, system, Related}
use Rattle.consistency.proofs.BridgeNext.{fresh_related, next_related}
use Rattle.consistency.proofs.Reader.{saying_set}
use Rattle.consistency.proofs.Recorded.{Recorded, start_recorded}
use Rattle.consistency.proofs.Grown.{Grown, grown}
use Rattle.consistency.proofs.RecordedNext.{Legal, record_legal, next_recorded}

-- COURSES

module _ {S A : Type 0} (on : S → A → S) (P : S → A → Type 0) where
  pub course_append : (s : S) (xs : List A) (t : S) (ys : List A) (u : S) → Course on P s xs t → Course on P t ys u → Course on P s (xs ++ ys) u
  unfolding Course
  course_append s [] t ys u p q = rw p q
  course_append s (x ∷ xs) t ys u p q = (p.0, course_append (on s x) xs t ys u p.1 q)

  pub course_first : (s : S) (xs ys : List A) (u : S) → Course on P s (xs ++ ys) u → Course on P s xs (foldl on s xs)
  unfolding Course
  course_first s [] ys u p = refl
  course_first s (x ∷ xs) ys u p = (p.0, course_first (on s x) xs ys u p.1)

  pub course_rest : (s : S) (xs ys : List A) (u : S) → Course on P s (xs ++ ys) u → Course on P (foldl on s xs) ys u
  unfolding Course
  course_rest s [] ys u p = p
  course_rest s (x ∷ xs) ys u p = course_rest (on s x) xs ys u p.1

  pub course_end : (s : S) (xs : List A) (u : S) → Course on P s xs u → foldl on s xs ≡ u
  unfolding Course
  course_end s [] u p = p
  course_end s (x ∷ xs) u p = course_end (on s x) xs u p.1

-- STEPS

unfoldable pub stepped : Table → Step → Table
stepped t (carried s e ms) = next t e

unfoldable pub Takes : Table → Step → Type 0
Takes t (carried s e ms) = Legal t s e ms

-- ENTRIES

-- an accepted event call: no question refuses its record, and it gives the record's answer
pub call_accepted : (t : Table) (s w : List ℕ) (a : EventAnswer) → a ≡ (event t s (length w)).answer → a.refusal ≡ 0
    → (first_no (command_questions t (decode t.version s)) ≡ 0) × (a ≡ (accepted t s).answer)
unfolding event refused lent_table
call_accepted t s w a e z =
    rw e (settled_case (λ (o : Outcome). o.answer.refusal ≡ 0 → (first_no (command_questions t (decode t.version s)) ≡ 0) × (o.answer ≡ (accepted t s).answer)) t s _
    (λ k _. ((step_asked t s (length w) (no_no 3 (well_formed t) _ k).1).1, refl)) (λ d z. absurd (d z)) (rw e at z))

-- an accepted record stands for a legal step, or for none, that leads to the table that it leaves
accepted-taken : (t : Table) (s : List ℕ) → first_no (command_questions t (decode t.version s)) ≡ 0
    → Course stepped Takes t (steps_of (said t.version s) (decode t.version s) (accepted t s).answer.names) (accepted t s).table
unfolding accepted command_questions answering resulting steps_of stepped Takes Course
accepted-taken t s = go (decode t.version s) refl
  where
    go : (a : Command) → decode t.version s ≡ a → first_no (command_questions t a) ≡ 0
        → Course stepped Takes t (steps_of (said t.version s) a (answering t a (after_record s)).names) (resulting t a)
    go (Act e) d q = (record_legal t s e d q, refl)
    go (Read c) d q = refl

-- an event call stands for legal steps, or none, that lead to the table that it leaves
event-taken : (t : Table) (s w : List ℕ)
    → Course stepped Takes t (steps t.version (answered s w (event t s (length w)).answer)) (event t s (length w)).table
unfolding event accepted refused steps Course lent_table
event-taken t s w =
    let k = first_no (lent_table t ∷ step_questions t s (length w)) in
    settled_case (λ (o : Outcome). Course stepped Takes t (steps t.version (answered s w o.answer)) o.table) t s k
    (λ e. rw (answering-accepted t (decode t.version s) (after_record s)) (accepted-taken t s (step_asked t s (length w) (no_no 3 (well_formed t) _ e).1).1))
    (λ d. rw (ne_eqb k 0 d) refl)

-- a handover that a served call made is a legal step
handover_legal : (t : Table) (p : Pair) (a : EventAnswer) → first_no (event_questions t (handover p)) ≡ 0 → a ≡ answering t (Act (handover p)) []
    → Legal t nothing_said (handover p) a.names
unfolding answering
handover_legal t p a q e = record { asked = q; set = ap (λ (x : EventAnswer). x.names) e; says = λ c y r. cc }

pub entry-taken : (t : Table) (e : Entry) → Gives t e → Course stepped Takes t (steps t.version e) (told t e)
unfolding Gives told steps Course stepped Takes
entry-taken t (answered s w a) q = rw q (event-taken t s w)
entry-taken t (observed o a) q = refl
entry-taken t (served s a) q = refl
entry-taken t (handed s p a) q = (handover_legal t p a q.0 q.1, refl)
entry-taken t (listed s x) q = rw (q.1, saying_set) (accepted-taken t s q.0)

-- THE VERSION, which no entry changes

next-version : (t : Table) (e : Event) → (next t e).version ≡ t.version
unfolding next with_sent with_controller with_message
next-version t (Send c p) = refl
next-version t (Handover r o) = refl
next-version t (Stop c k) = refl

accepted-version : (t : Table) (s : List ℕ) → (accepted t s).table.version ≡ t.version
unfolding accepted resulting
accepted-version t s = go (decode t.version s)
  where
    go : (a : Command) → (resulting t a).version ≡ t.version
    go (Act e) = next-version t e
    go (Read c) = refl

pub told-version : (t : Table) (e : Entry) → (told t e).version ≡ t.version
unfolding told event refused
told-version t (answered s w a) = settled_case (λ (o : Outcome). o.table.version ≡ t.version) t s _ (λ _. accepted-version t s) (λ _. refl)
told-version t (observed o a) = refl
told-version t (served s a) = refl
told-version t (handed s p a) = next-version t (handover p)
told-version t (listed s x) = accepted-version t s

pub entries-version : (t : Table) (es : List Entry) → (foldl told t es).version ≡ t.version
entries-version t [] = refl
entries-version t (e ∷ es) = entries-version (told t e) es ∙ told-version t e

-- LISTS

pub flat_map_append : {A B : Type 0} (f : A → List B) (xs ys : List A) → flat_map f (xs ++ ys) ≡ flat_map f xs ++ flat_map f ys
unfolding flat_map
flat_map_append f [] ys = refl
flat_map_append f (x ∷ xs) ys = rw (flat_map_append f xs ys, append_assoc)

pub did-append : (v : ℕ) (xs ys : List Entry) → did v (xs ++ ys) ≡ did v xs ++ did v ys
did-append v = flat_map_append (steps v)

-- read as the version of their tables says, entries are legal steps
pub entries-taken : {v : ℕ} (t : Table) → t.version ≡ v → (es : List Entry) (u : Table) → Course told Gives t es u → Course stepped Takes t (did v es) u
unfolding Course flat_map
entries-taken t q [] u p = p
entries-taken {v} t q (e ∷ es) u p =
    course_append stepped Takes t (steps v e) (told t e) (did v es) u (rw (← q) (entry-taken t e p.0))
    (entries-taken (told t e) (told-version t e ∙ q) es u p.1)

-- MOMENTS

-- the table and the ledger at a moment, and a state that a run from s reaches
pub record Moment (n : ℕ) (s : State) (t : Table) (l : Ledger) : Type 0 where
  pub state : State
  pub run : Run (system n) s state
  pub related : Related n t state
  pub recorded : Recorded n t l

pub first-moment : {v n : ℕ} → FreshAllowed v n → Moment n (fresh_state top) (fresh v n) start
first-moment a = record { state = fresh_state top; run = stays; related = fresh_related a; recorded = start_recorded a }

pub step-moment : {n : ℕ} {s₀ : State} {t : Table} {l : Ledger} → Moment n s₀ t l → (x : Step) → Takes t x → Moment n s₀ (stepped t x) (moved l x)
unfolding Takes stepped
step-moment m (carried s e ms) a =
    let g = m.related in
    let f = next_related g e a.asked in
    record {
      state = f.after;
      run = then m.run f.legal;
      related = f.related;
      recorded = next_recorded g m.recorded s e ms a;
    }

pub moment-after : {n : ℕ} {s₀ : State} {t u : Table} {l : Ledger} → Moment n s₀ t l → (xs : List Step) → Course stepped Takes t xs u
    → Moment n s₀ u (foldl moved l xs)
unfolding Course
moment-after m [] p = rw (← p) m
moment-after {t = t} m (x ∷ xs) p = moment-after {t = stepped t x} (step-moment m x p.0) xs p.1

-- the same moment as a start of its own
restarted : {n : ℕ} {s₀ : State} {t : Table} {l : Ledger} (m : Moment n s₀ t l) → Moment n m.state t l
restarted m = record { state = m.state; run = stays; related = m.related; recorded = m.recorded }

-- a moment, and a later one that a run from its state reaches
pub record Later (n : ℕ) (s₀ : State) (t u : Table) (l k : Ledger) : Type 0 where
  pub first : Moment n s₀ t l
  pub second : Moment n first.state u k
  pub grown : Grown l k

pub moment_later : {n : ℕ} {s₀ : State} {t u : Table} {l : Ledger} → Moment n s₀ t l → (xs : List Step) → Course stepped Takes t xs u
    → Later n s₀ t u l (foldl moved l xs)
moment_later {l = l} m xs p = record { first = m; second = moment-after (restarted m) xs p; grown = grown l xs }

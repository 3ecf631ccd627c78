-- A list of calls is legal steps one after another from a fresh table, and each of its moments is one that they reach. Assumes nothing.
use mathlib.Core.Path.{◌≡◌, refl, sym, ap, subst, ◌∙◌}
use mathlib.Core.List.{List, [], ◌∷◌, ◌++◌, flat_map, foldl, foldl-append, append-nil}
use Prim.Native.Nat.{ℕ, suc, ◌+◌, ◌-◌, ◌≤◌}
use native.Mathlib.Numerals.{add-one}
use native.Mathlib.Omega.{arith}
use native.Mathlib.Decide.{dec_lt}
use lib.ListN.{length, take, drop, take-append-drop}
use lib.Seq.{take-add}
use Rattle.model.specs.Tables.{start as begins, fresh}
use Rattle.model.specs.Events.{applied_by}
use Rattle.model.specs.Calls.{EventAnswer, event, look}
use Rattle.model.specs.declared.Name.{Name}
use Rattle.model.specs.declared.Table.{Table}
use Rattle.model.specs.declared.Event.{Event}
use Rattle.model.specs.declared.LookAnswer.{LookAnswer}
use Rattle.broadcast.specs.State.{fresh as fresh_state}
use Rattle.consistency.specs.Entries.{panel_look, observe, Call, Entry, answered, observed, left, Said, Step, carried, steps, did}
use Rattle.consistency.specs.Ledger.{Ledger, start, moved, ledger, sent_names}
use Rattle.consistency.specs.Demand3.{Head, Heads, version, controllers, opening, given, entries, moment, between, Contains}
use Rattle.consistency.specs.Courses.{Course, told, Gives, fresh_of, table_at}
use Rattle.consistency.proofs.Bridge.{top}
use Rattle.consistency.proofs.Recorded.{names-sent}
use Rattle.consistency.proofs.Moments.{course_append, course_first, course_rest, course_end, stepped, Takes, entries-version, did-append, entries-taken, Moment, first-moment, moment-after, Later, moment_later}
use Rattle.consistency.proofs.CallCourses.{transcript_course}
use Rattle.consistency.proofs.Heads.{Opened, opened}

fresh-version : (h : Head) → (fresh_of h).version ≡ version h
unfolding fresh begins
fresh-version h = refl

module _ (h : Head) (heads : Heads h) (calls : List Call) where
  abbrev n : ℕ
  n = controllers h

  abbrev v : ℕ
  v = version h

  abbrev es : List Entry
  es = entries h calls

  abbrev b : Opened h
  b = opened h heads

  abbrev end : Table
  end = foldl left (given h) calls

  -- THE LIST is legal steps one after another, from a fresh table to the one that the last call left

  whole : Course told Gives (fresh_of h) es end
  unfolding entries
  whole = course_append told Gives (fresh_of h) (opening h) (given h) _ end b.course (transcript_course (given h) calls)

  taken : Course stepped Takes (fresh_of h) (did v es) end
  taken = entries-taken (fresh_of h) (fresh-version h) es end whole

  until : (i : ℕ) → Course told Gives (fresh_of h) (take i es) (table_at h calls i)
  until i = course_first told Gives (fresh_of h) (take i es) (drop i es) end (rw (take-append-drop i es) whole)

  from : (i : ℕ) → Course told Gives (table_at h calls i) (drop i es) end
  from i = course_rest told Gives (fresh_of h) (take i es) (drop i es) end (rw (take-append-drop i es) whole)

  pub version-given : (given h).version ≡ v
  version-given =
      ap (λ (t : Table). t.version) (sym (course_end told Gives (fresh_of h) (opening h) (given h) b.course)) ∙ (entries-version (fresh_of h) (opening h) ∙ fresh-version h)

  pub version-at : (i : ℕ) → (table_at h calls i).version ≡ v
  version-at i = entries-version (fresh_of h) (take i es) ∙ fresh-version h

  -- what an entry answers is what the definitions give at its table
  pub gives_at : (i : ℕ) (e : Entry) (after : List Entry) → drop i es ≡ e ∷ after → Gives (table_at h calls i) e
  unfolding Course
  gives_at i e after q = (rw q at (from i)).0

  pub event-at : (i : ℕ) (s w : List ℕ) (a : EventAnswer) (after : List Entry) → drop i es ≡ answered s w a ∷ after → a ≡ (event (table_at h calls i) s (length w)).answer
  unfolding Gives
  event-at i s w a = gives_at i (answered s w a)

  pub look_at : (i c : ℕ) (a : LookAnswer) (after : List Entry) → drop i es ≡ observed (panel_look c) a ∷ after → a ≡ look (table_at h calls i) c
  unfolding Gives observe
  look_at i c a = gives_at i (observed (panel_look c) a)

  -- ITS MOMENTS

  pub first : Moment n (fresh_state top) (fresh_of h) start
  first = first-moment b.allowed

  reached : {u : Table} (xs : List Step) → Course stepped Takes (fresh_of h) xs u → Moment n (fresh_state top) u (ledger xs)
  reached = moment-after first

  pub steps_until : (i : ℕ) → Course stepped Takes (fresh_of h) (did v (take i es)) (table_at h calls i)
  steps_until i = entries-taken (fresh_of h) (fresh-version h) (take i es) (table_at h calls i) (until i)

  pub moment-at : (i : ℕ) → Moment n (fresh_state top) (table_at h calls i) (moment h calls i)
  moment-at i = reached (did v (take i es)) (steps_until i)

  pub moment_end : Moment n (fresh_state top) end (ledger (did v es))
  moment_end = reached (did v es) taken

  -- after one entry more: the entries so far, the table that it leaves, and what its steps make of the ledger
  one_more : (i : ℕ) (e : Entry) (after : List Entry) → drop i es ≡ e ∷ after → take (suc i) es ≡ take i es ++ (e ∷ [])
  one_more i e after q = rw (← add-one i, take-add i 1 es, q)

  pub moment_past : (i : ℕ) (e : Entry) (after : List Entry) → drop i es ≡ e ∷ after
      → Moment n (fresh_state top) (told (table_at h calls i) e) (moment h calls (suc i))
  moment_past i e after q =
      rw (ap (foldl told (fresh_of h)) (one_more i e after q) ∙ foldl-append told (fresh_of h) (take i es) (e ∷ [])) at (moment-at (suc i))

  pub moment-next : (i : ℕ) (e : Entry) (after : List Entry) → drop i es ≡ e ∷ after → moment h calls (suc i) ≡ foldl moved (moment h calls i) (steps v e)
  unfolding flat_map
  moment-next i e after q =
      ap (λ (xs : List Entry). ledger (did v xs)) (one_more i e after q)
      ∙ ap ledger (did-append v (take i es) (e ∷ []) ∙ ap (λ (xs : List Step). did v (take i es) ++ xs) (append-nil (steps v e)))
      ∙ foldl-append moved start (did v (take i es)) (steps v e)

  -- of two moments, the second k entries on: the entries between them, and what they make of the ledger; and so of any two in order
  pub between_course : (i k : ℕ) → Course told Gives (table_at h calls i) (take k (drop i es)) (foldl told (table_at h calls i) (take k (drop i es)))
  between_course i k = course_first told Gives (table_at h calls i) (take k (drop i es)) (drop k (drop i es)) end (rw (take-append-drop k (drop i es)) (from i))

  pub between-steps : (i k : ℕ) → Course stepped Takes (table_at h calls i) (did v (take k (drop i es))) (foldl told (table_at h calls i) (take k (drop i es)))
  between-steps i k = entries-taken (table_at h calls i) (version-at i) (take k (drop i es)) _ (between_course i k)

  pub steps-between : (i j : ℕ) → i ≤ j → Course stepped Takes (table_at h calls i) (did v (between h calls i j)) (table_at h calls j)
  steps-between i j le =
      let q : i + (j - i) ≡ j = omega (arith, le) in
      let there : table_at h calls (i + (j - i)) ≡ foldl told (table_at h calls i) (between h calls i j)
      = ap (foldl told (fresh_of h)) (take-add i (j - i) es) ∙ foldl-append told (fresh_of h) (take i es) (between h calls i j) in
      subst (Course stepped Takes (table_at h calls i) (did v (between h calls i j))) (sym there ∙ ap (table_at h calls) q) (between-steps i (j - i))

  pub moment-after-steps : (i k : ℕ) → moment h calls (i + k) ≡ foldl moved (moment h calls i) (did v (take k (drop i es)))
  moment-after-steps i k =
      let xs = take k (drop i es) in
      ap (λ (ys : List Entry). ledger (did v ys)) (take-add i k es) ∙ (ap ledger (did-append v (take i es) xs) ∙ foldl-append moved start (did v (take i es)) (did v xs))

  later_by : (i k : ℕ) → Later n (fresh_state top) (table_at h calls i) (foldl told (table_at h calls i) (take k (drop i es))) (moment h calls i) (moment h calls (i + k))
  later_by i k = rw (moment-after-steps i k) (moment_later (moment-at i) (did v (take k (drop i es))) (between-steps i k))

  pub later_at : (i j : ℕ) → i ≤ j → Later n (fresh_state top) (table_at h calls i) (foldl told (table_at h calls i) (take (j - i) (drop i es))) (moment h calls i) (moment h calls j)
  later_at i j le = let q : i + (j - i) ≡ j = omega (arith, le) in rw q at (later_by i (j - i))

  -- what holds of a moment and a later one, and either way round, holds of any two
  pub any_two : (P : Ledger → Ledger → Type 0) → ((t u : Table) (l k : Ledger) → Later n (fresh_state top) t u l k → P l k) → ((l k : Ledger) → P l k → P k l)
      → (i j : ℕ) → P (moment h calls i) (moment h calls j)
  any_two P f turned i j = elim (dec_lt j i) [
    | no l ↦ f _ _ _ _ (later_at i j (omega arith))
    | yes l ↦ turned _ _ (f _ _ _ _ (later_at j i (omega arith)))
  ]

  pub sent : (before after : List Step) (s : Said) (e : Event) (ms : List Name) → did v es ≡ before ++ (carried s e ms ∷ after) → Contains (sent_names (ledger before)) ms
  unfolding Takes Course
  sent before after s e ms q x w =
      let p = rw q at taken in
      let t = foldl stepped (fresh_of h) before in
      let m = reached before (course_first stepped Takes (fresh_of h) before (carried s e ms ∷ after) end p) in
      let a = (course_rest stepped Takes (fresh_of h) before (carried s e ms ∷ after) end p).0 in
      names-sent m.recorded (applied_by t e) x (rw a.set at w)

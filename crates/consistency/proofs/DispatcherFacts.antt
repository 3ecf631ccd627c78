-- What the dispatcher's calls in a list say: it is fair, handovers are bounded, its calls are accepted, one of 3,137 says "none", and that
-- is the end of the run. Assumes nothing.
use mathlib.Core.Path.{◌≡◌, refl, sym, ap, subst, ◌∙◌}
use mathlib.Core.Logic.{inl, inr}
use mathlib.Core.Bool.{Bool, true, false, not, ◌&&◌, cond}
use mathlib.Core.List.{List, [], ◌∷◌, ◌++◌, append-nil, flat_map}
use Prim.Native.Nat.{ℕ, zero, suc, ◌+◌, ◌-◌, ◌*◌, ◌≤◌, ◌<◌}
use native.Mathlib.Nat.{mul-le-mul}
use native.Mathlib.Omega.{arith}
use native.Mathlib.Decide.{dec_lt}
use lib.ListN.{length, take, drop, take-append-drop}
use lib.Seq.{take-length, take-append_seam, drop-append_seam}
use lib.Dec.{leb}
use borrow.Author.Tests.{ltb-false, leb-true}
use Rattle.lists.specs.Below.{tally}
use Rattle.lists.proofs.Below.{tally-plus}
use Rattle.lists.proofs.Tests.{and_left, and_right, decided, refuted, both, contradiction}
use Rattle.model.specs.Tables.{scratch_size, Among, at, place}
use Rattle.model.specs.Records.{after_record}
use Rattle.model.specs.Fair.{named}
use Rattle.model.specs.Questions.{first_no, unread}
use Rattle.model.specs.Calls.{answering, refused}
use Rattle.turns.specs.Dispatcher.{pair, waits, next_pair, dispatch_questions, Dispatched, says_none, DispatchOutcome, with_handover, with_none, dispatch}
use Rattle.model.specs.declared.Pair.{Pair}
use Rattle.model.specs.declared.Table.{Table}
use Rattle.model.proofs.Tested.{tested, named-at}
use Rattle.turns.specs.Claims.{InRange}
use Rattle.turns.proofs.Dispatching.{distance, none-waits, Passed, passed_dispatch, dispatch_case, dispatch_refusal, none_said}
use Rattle.broadcast.specs.State.{State}
use Rattle.consistency.specs.Entries.{Service, dispatching, committing, serve, made_by, Call, single_event, observing, serving, Entry, served, handed_over, entries_of, left, transcript, Step, carried, steps, did}
use Rattle.consistency.specs.Ledger.{Ledger, ledger}
use Rattle.consistency.specs.Lines.{record_entries, file_entries}
use Rattle.consistency.specs.Dispatches.{is_handover, NoStop, handover_count, dispatches, FollowOn, answer_in, dispatch_answers, not_none}
use Rattle.consistency.specs.Demand3.{Head, request, file, Heads, version, controllers, opening, given, entries, moment, between, IsRunning, Waiting, LastSaysNone}
use Rattle.consistency.specs.Courses.{told, Gives, table_at}
use Rattle.consistency.proofs.SlotNames.{length_log}
use Rattle.consistency.proofs.Recorded.{Recorded}
use Rattle.consistency.proofs.Moments.{course_end, flat_map_append, entries-version, did-append, entries-taken, Moment, moment-after}
use Rattle.consistency.proofs.CallCourses.{call_course}
use Rattle.consistency.proofs.CallLists.{version-given, version-at, gives_at, moment-at, moment_end, between_course, between-steps, moment-after-steps}
use Rattle.consistency.proofs.Places.{few_handovers}
use Rattle.consistency.proofs.Fairness.{fair_course}

-- a call that is past question 8 and lent enough scratch passes, whatever is next
call_passes : {n : ℕ} {t : Table} {l : Ledger} → Recorded n t l → (p q : Pair) (room : ℕ) → Among n p.receiver → Among n p.owner → scratch_size ≤ room → Passed t p q room
call_passes {t = t} k p q room r o enough = record {
  formed = tested t k.formed;
  named = record { receiver = rw k.size r; owner = rw k.size o };
  enough = λ _. enough;
}

-- where none is said, running controllers have read all logs to their ends
all_read_out : {n : ℕ} {t : Table} {l : Ledger} → Recorded n t l → (p : Pair) (room : ℕ) → says_none (dispatch t p room).answer ≡ true
    → (r o : ℕ) → IsRunning n l r → Among n o → l.place r o ≡ length (l.log o)
unfolding waits unread
all_read_out {n} {t} {l} k p room e r o on ho =
    let hr = on.named in
    let z = none_said t p room e in
    let gr : Among t.n r = rw k.size hr in
    let go : Among t.n o = rw k.size ho in
    let w = none-waits t.n t.controllers p (pair r o) z.0.named (record { receiver = gr; owner = go }) z.1 in
    let rest : unread (at t r) (at t o) o ≡ false = refuted _ (λ y. contradiction (both (sym (k.runs r hr) ∙ on.running) y) w) in
    omega (
      arith,
      k.places r o hr ho,
      ap length (k.logs o ho),
      length_log t (at t o),
      (k.formed.controllers r gr).places o go,
      ltb-false (place (at t r) o) (at t o).length rest,
    )

-- CALLS THAT DO NOT SAY "NONE"

tally-sum : (b : Bool) (x y : ℕ) → tally b (x + y) ≡ tally b x + y
tally-sum b x y = omega (arith, tally-plus b (x + y), tally-plus b x)

not_none-append : (xs ys : List Dispatched) → not_none (xs ++ ys) ≡ not_none xs + not_none ys
unfolding not_none
not_none-append [] ys = omega arith
not_none-append (a ∷ xs) ys = rw (not_none-append xs ys) (tally-sum (not (says_none a)) (not_none xs) (not_none ys))

answers_append : (n : ℕ) (xs ys : List Entry) → not_none (dispatch_answers n (xs ++ ys)) ≡ not_none (dispatch_answers n xs) + not_none (dispatch_answers n ys)
answers_append n xs ys = ap not_none (flat_map_append (answer_in n) xs ys) ∙ not_none-append (dispatch_answers n xs) (dispatch_answers n ys)

handovers_append : (xs ys : List Step) → handover_count (xs ++ ys) ≡ handover_count xs + handover_count ys
unfolding handover_count
handovers_append [] ys = omega arith
handovers_append (carried s e ms ∷ xs) ys = rw (handovers_append xs ys) (tally-sum (is_handover e) (handover_count xs) (handover_count ys))

-- a call that does not say "none" makes a handover
asked_busy : (b : Bool) (a : Dispatched) (k : ℕ) → (b ≡ true → says_none a ≡ false → 0 < k) → not_none (cond b (a ∷ []) [] ++ []) ≤ k
unfolding not_none
asked_busy false a k f = omega arith
asked_busy true a k f = elim (decided (says_none a)) [ inl e ↦ rw e (omega arith) | inr e ↦ rw e (f refl e) ]

serving_busy : {n : ℕ} {t : Table} {l : Ledger} → Recorded n t l → (v : ℕ) (p : Pair) (w : List ℕ)
    → let es = entries_of t (serving (dispatching p w)) in not_none (dispatch_answers n es) ≤ handover_count (did v es)
unfolding entries_of serve made_by with_handover with_none answering flat_map answer_in steps handover_count is_handover says_none refused
serving_busy {n} {t} k v p w =
    let room = length w in
    let q = next_pair t.n t.controllers p in
    let b = named n p.receiver && (named n p.owner && leb scratch_size room) in
    dispatch_case t p room
    (λ (o : DispatchOutcome). let es = served (dispatching p w) o.answer ∷ handed_over (dispatching p w) (made_by (dispatching p w) o.answer) in
    not_none (dispatch_answers n es) ≤ handover_count (did v es))
    (λ s. rw s.some (asked_busy b (with_handover t q).answer 1 (λ _ _. omega arith)))
    (λ _. asked_busy b (with_none t (first_no (dispatch_questions t p q room))).answer 0 (λ e f. contradiction (rw (passes e) refl) f))
  where
    passes : (named n p.receiver && (named n p.owner && leb scratch_size (length w))) ≡ true
        → first_no (dispatch_questions t p (next_pair t.n t.controllers p) (length w)) ≡ 0
    passes e =
        let c = and_right (named n p.receiver) _ e in
        let is : (x : ℕ) → named n x ≡ true → Among n x = λ x y. rw k.size at (named-at t x (rw k.size y)) in
        passed_dispatch t p _ (length w) (call_passes k p _ (length w) (is p.receiver (and_left _ _ e)) (is p.owner (and_left _ _ c)) (leb-true scratch_size (length w) (and_right (named n p.owner) _ c)))

-- handovers are no answers of the dispatcher
made_quiet : (n : ℕ) (s : Service) (xs : List Dispatched) → dispatch_answers n (handed_over s xs) ≡ []
unfolding flat_map answer_in
made_quiet n s [] = refl
made_quiet n s (x ∷ xs) = made_quiet n s xs

call_busy : {n : ℕ} {t : Table} {l : Ledger} → Recorded n t l → (v : ℕ) (c : Call) → not_none (dispatch_answers n (entries_of t c)) ≤ handover_count (did v (entries_of t c))
unfolding entries_of flat_map answer_in not_none
call_busy k v (single_event s w) = omega arith
call_busy k v (observing o) = omega arith
call_busy k v (serving (dispatching p w)) = serving_busy k v p w
call_busy {n} {t} k v (serving (committing p a w)) = rw (made_quiet n _ (made_by (committing p a w) (serve t (committing p a w)).answer)) (omega arith)

calls_busy : {n v : ℕ} {s₀ : State} {t : Table} {l : Ledger} → Moment n s₀ t l → t.version ≡ v → (cs : List Call)
    → not_none (dispatch_answers n (transcript t cs)) ≤ handover_count (did v (transcript t cs))
unfolding transcript flat_map not_none
calls_busy m q [] = omega arith
calls_busy {n} {v} {t = t} m q (c ∷ cs) =
    let es = entries_of t c in
    let more = transcript (left t c) cs in
    let course = call_course t c in
    let version : (left t c).version ≡ v = ap (λ (u : Table). u.version) (sym (course_end told Gives t es (left t c) course)) ∙ (entries-version t es ∙ q) in
    omega (
      arith,
      answers_append n es more,
      ap handover_count (did-append v es more),
      handovers_append (did v es) (did v more),
      call_busy m.recorded v c,
      calls_busy {t = left t c} (moment-after m (did v es) (entries-taken t q es (left t c) course)) version cs,
    )

-- a file at the head of a list makes no call
records_quiet : (n k e : ℕ) (s : List ℕ) (ls : List (List ℕ)) → dispatch_answers n (record_entries k e s ls) ≡ []
unfolding record_entries flat_map answer_in
records_quiet n zero e s ls = refl
records_quiet n (suc k) e s ls = records_quiet n k (e + 1) (after_record s) ls

opening_quiet : (n : ℕ) (h : Head) → dispatch_answers n (opening h) ≡ []
unfolding opening file_entries flat_map
opening_quiet n (request v c) = refl
opening_quiet n (file s listing scratch) = records_quiet n _ 1 (drop 2 s) _

module _ (h : Head) (heads : Heads h) (calls : List Call) where
  abbrev n : ℕ
  n = controllers h

  abbrev v : ℕ
  v = version h

  recorded : (i : ℕ) → Recorded n (table_at h calls i) (moment h calls i)
  recorded i = (moment-at h heads calls i).recorded

  pub fair : (i j r o : ℕ) (p : Pair)
      → let xs = between h calls i j in
      NoStop (did v xs) → FollowOn p (dispatches xs) → n * n ≤ length (dispatches xs)
      → Waiting n (moment h calls i) r o → (moment h calls i).place r o < (moment h calls j).place r o
  unfolding flat_map
  fair i j r o p ns fo many w =
      let some : 0 < n * n = omega (arith, w.owner.low, w.owner.high, mul-le-mul {n₁ = 1} {m₁ = 1} {n₂ = n} {m₂ = n} (omega (arith, w.owner.low, w.owner.high)) (omega (arith, w.owner.low, w.owner.high))) in
      elim (dec_lt j i) [
        | yes l ↦ let z : j - i ≡ 0 = omega (arith, l) in absurd (omega (arith, some, rw z at many))
        | no l ↦
            let q : i + (j - i) ≡ j = omega (arith, l) in
            let there : InRange n (pair r o) = record { receiver = w.receiver.named; owner = w.owner } in
            elim (fair_course n v r o (moment-at h heads calls i) (version-at h heads calls i) (between h calls i j) _ (between_course h heads calls i (j - i)) (n * n) p some (omega arith) ns fo w
            (λ range. distance n p (pair r o) range there)) [
              | inl b ↦ rw (← moment-after-steps h heads calls i (j - i), q) at b
              | inr b ↦ absurd (omega (arith, b, many))
            ]
      ]

  pub bounded : (i j : ℕ) → handover_count (did v (between h calls i j)) ≤ 3136
  bounded i j = few_handovers (moment-at h heads calls i) (did v (between h calls i j)) _ (between-steps h heads calls i (j - i))

  pub accepts : (i : ℕ) (p : Pair) (w : List ℕ) (a : Dispatched) (after : List Entry) → drop i (entries h calls) ≡ served (dispatching p w) a ∷ after
      → Among n p.receiver → Among n p.owner → scratch_size ≤ length w → a.answer.refusal ≡ 0
  unfolding Gives serve
  accepts i p w a after q r o enough =
      let t = table_at h calls i in
      ap (λ (x : Dispatched). x.answer.refusal) (gives_at h heads calls i (served (dispatching p w) a) after q)
      ∙ (dispatch_refusal t p (length w) ∙ passed_dispatch t p _ (length w) (call_passes (recorded i) p _ (length w) r o enough))

  pub none_reads : LastSaysNone h calls → (r o : ℕ)
      → let l = ledger (did v (entries h calls)) in
      IsRunning n l r → Among n o → l.place r o ≡ length (l.log o)
  unfolding Gives serve steps flat_map
  none_reads s =
      let i = length s.before in
      let x = served (dispatching s.named s.scratch) s.answer in
      let g = gives_at h heads calls i x [] (ap (drop i) s.last ∙ drop-append_seam s.before (x ∷ [])) in
      let same : moment h calls i ≡ ledger (did v (entries h calls))
      = ap (λ (es : List Entry). ledger (did v es)) (ap (take i) s.last ∙ take-append_seam s.before (x ∷ []))
      ∙ sym (ap (λ (es : List Entry). ledger (did v es)) s.last ∙ ap ledger (did-append v s.before (x ∷ []) ∙ append-nil (did v s.before))) in
      rw same at (all_read_out (recorded i) s.named (length s.scratch) (rw g at s.none))

  -- OF ANY 3,137 CALLS, one says "none": each of the others makes a handover

  whole : not_none (dispatch_answers n (entries h calls)) ≤ handover_count (did v (entries h calls))
  unfolding entries not_none
  whole =
      let es = transcript (given h) calls in
      omega (
        arith,
        answers_append n (opening h) es,
        ap not_none (opening_quiet n h),
        ap handover_count (did-append v (opening h) es),
        handovers_append (did v (opening h)) (did v es),
        calls_busy (moment_end h heads []) (version-given h heads calls) calls,
      )

  pub one_none : (i j : ℕ) → not_none (dispatch_answers n (between h calls i j)) ≤ 3136
  one_none i j =
      let es = entries h calls in
      let xs = between h calls i j in
      let rest = drop (j - i) (drop i es) in
      let parts : take i es ++ (xs ++ rest) ≡ es = ap (λ (ys : List Entry). take i es ++ ys) (take-append-drop (j - i) (drop i es)) ∙ take-append-drop i es in
      omega (
        arith,
        ap (λ (ys : List Entry). not_none (dispatch_answers n ys)) parts,
        answers_append n (take i es) (xs ++ rest),
        answers_append n xs rest,
        whole,
        few_in_all,
      )
    where
      few_in_all : handover_count (did v (entries h calls)) ≤ 3136
      few_in_all =
          let es = entries h calls in
          let q : length es - 0 ≡ length es = omega arith in
          subst (λ (xs : List Entry). handover_count (did v xs) ≤ 3136) (ap (λ k. take k es) q ∙ take-length es) (bounded 0 (length es))

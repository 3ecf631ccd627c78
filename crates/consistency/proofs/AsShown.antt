-- What others do between an ask and its commit: the receiver stays as it is, and the entry stands as it was unless a stop cuts it away. So
-- the handover applies the set that was shown. Assumes nothing.
use mathlib.Core.Path.{◌≡◌, refl, sym, ap, ◌∙◌}
use mathlib.Core.Logic.{◌≢◌, inl, inr}
use mathlib.Core.Bool.{true, false}
use mathlib.Core.List.{List, [], ◌∷◌, ◌++◌, foldl}
use Prim.Native.Nat.{ℕ, zero, suc, ◌+◌, ◌≤◌, ◌<◌}
use native.Mathlib.Omega.{arith}
use native.Mathlib.Decide.{dec_lt, ℕ_discrete}
use lib.ListN.{length, get_or, take, length-append, length-take, get_or-append}
use lib.Seq.{length-take-le, get_or-take}
use lib.Dec.{eqb}
use borrow.Author.Tests.{eq-eqb}
use Rattle.lists.specs.Below.{tally}
use Rattle.lists.proofs.Below.{tally-plus}
use Rattle.lists.proofs.Tests.{refuted, contradiction, cond_case}
use Rattle.model.specs.Tables.{Messages, Among, yes?, no_name, at, message, messages_of, message_in, with_controller, with_message, place, slot_at}
use Rattle.model.specs.Delivery.{Slots, has as member}
use Rattle.model.specs.Events.{subject, with_sent, next, sent_message, next_slot, received, handover_set, name_of, names_below, names_of}
use Rattle.model.specs.Questions.{first_no, event_questions}
use Rattle.model.specs.declared.Name.{Name}
use Rattle.model.specs.declared.Message.{Message}
use Rattle.model.specs.declared.Controller.{Controller}
use Rattle.model.specs.declared.Table.{Table}
use Rattle.model.specs.declared.Event.{Event}
use Rattle.model.specs.declared.Event.TheVariants.{Send, Handover, Stop}
use Rattle.model.proofs.Allowed.{HandoverAllowed, send_allowed, handover_allowed, stop_allowed, subject_allowed}
use Rattle.model.proofs.Handovers.{next_at, set_at}
use Rattle.invariant.proofs.Stores.{seated, message_old}
use Rattle.invariant.proofs.Sizes.{next_other}
use Rattle.invariant.proofs.Receiving.{next_slot_run, set_of_run}
use Rattle.broadcast.specs.State.{State}
use Rattle.consistency.specs.Entries.{name, has, Said, Step, carried}
use Rattle.consistency.specs.Ledger.{Ledger, moved}
use Rattle.consistency.specs.Dispatches.{acts_in, CutAway}
use Rattle.consistency.specs.Courses.{Course}
use Rattle.consistency.proofs.Names.{same_self}
use Rattle.consistency.proofs.SlotNames.{name_at, slot_of, length_log, log_at}
use Rattle.consistency.proofs.Recorded.{Recorded}
use Rattle.consistency.proofs.Moments.{stepped, Takes, Moment, step-moment, moment-after}
use Rattle.consistency.proofs.Places.{put-here, put_there}

-- THE ENTRY

-- a step changes the log of its subject alone, and stops nobody else
log_other : (l : Ledger) (s : Said) (e : Event) (ms : List Name) (o : ℕ) → o ≢ subject e
    → ((moved l (carried s e ms)).log o ≡ l.log o) × ((moved l (carried s e ms)).runs o ≡ l.runs o)
unfolding moved subject
log_other l s (Send c y) ms o q = (put_there l.log c _ o q, refl)
log_other l s (Handover r d) ms o q = (put_there l.log r _ o q, refl)
log_other l s (Stop c k) ms o q = (put_there l.log c _ o q, put_there l.runs c _ o q)

-- a subject runs
subject_runs : (t : Table) (e : Event) → first_no (event_questions t e) ≡ 0 → yes? (at t (subject e)).running ≡ true
unfolding subject
subject_runs t (Send c y) q = (send_allowed t c y q).running
subject_runs t (Handover r o) q = (handover_allowed t r o q).running
subject_runs t (Stop c k) q = (stop_allowed t c k q).running

-- entry i of the log of o, some steps on: it stands as it was, or a stop has cut it away and o runs no longer
data Fate (l k : Ledger) (xs : List Step) (o i : ℕ) : Type 0 where
  stands : i < length (k.log o) → get_or (k.log o) i no_name ≡ get_or (l.log o) i no_name → Fate l k xs o i
  gone : CutAway xs o i → length (k.log o) ≤ i → k.runs o ≡ false → Fate l k xs o i

-- one entry more, or none
more_stands : (xs : List Name) (m : Name) (i : ℕ) → i < length xs → (i < length (xs ++ (m ∷ []))) × (get_or (xs ++ (m ∷ [])) i no_name ≡ get_or xs i no_name)
more_stands xs m i h = (omega (arith, h, length-append xs (m ∷ [])), get_or-append xs (m ∷ []) no_name i h)

-- a stop leaves no more of the log than it keeps
stopped_log : (l : Ledger) (s : Said) (c j : ℕ) (ms : List Name)
    → (length ((moved l (carried s (Stop c j) ms)).log c) ≤ j) × ((moved l (carried s (Stop c j) ms)).runs c ≡ false)
unfolding moved
stopped_log l s c j ms = (rw (put-here l.log c _, length-take j (l.log c)) (omega arith), put-here l.runs c false)

module _ {n : ℕ} {t : Table} {l : Ledger} (p : Recorded n t l) (o : ℕ) (h : Among n o) (i : ℕ) where
  own_step : (s : Said) (e : Event) (ms : List Name) → Takes t (carried s e ms) → o ≡ subject e → i < length (l.log o)
      → (xs : List Step) → Fate l (moved l (carried s e ms)) (carried s e ms ∷ xs) o i
  unfolding moved Takes subject CutAway
  own_step s (Send c y) ms a q k xs =
      let b = more_stands (l.log c) (name c (length (l.log c) + 1)) i (rw q at k) in
      rw q (stands (rw (put-here l.log c _) b.0) (rw (put-here l.log c _) b.1))
  own_step s (Handover r d) ms a q k xs =
      let m = get_or (l.log d) (l.place r d) no_name in
      let b = cond_case (λ (ys : List Name). (i < length ys) × (get_or ys i no_name ≡ get_or (l.log r) i no_name)) (has m (l.log r)) (l.log r) _
      (λ _. (rw q at k, refl)) (λ _. more_stands (l.log r) m i (rw q at k)) in
      rw q (stands (rw (put-here l.log r _) b.0) (rw (put-here l.log r _) b.1))
  own_step s (Stop c j) ms a q k xs =
      let w = (stop_allowed t c j a.asked).within in
      let size : length (take j (l.log c)) ≡ j = length-take-le j (l.log c) (omega (arith, w, ap length (p.logs c (rw q at h)), length_log t (at t c))) in
      rw q (elim (dec_lt i j) [
        | yes u ↦ stands (rw (put-here l.log c _) (omega (arith, u, size))) (rw (put-here l.log c _) (get_or-take j (l.log c) i no_name u))
        | no u ↦ gone (inl (refl, omega (arith, u))) (rw (put-here l.log c _) (omega (arith, u, size))) (put-here l.runs c false)
      ])

  -- after a step
  step_fate : (x : Step) → Takes t x → i < length (l.log o) → (xs : List Step) → Fate l (moved l x) (x ∷ xs) o i
  step_fate (carried s e ms) a k xs = elim (ℕ_discrete o (subject e)) [
    | yes q ↦ own_step s e ms a q k xs
    | no q ↦ let b = log_other l s e ms o q in stands (rw b.0 k) (rw b.0 refl)
  ]

  -- what is gone stays gone
  step_gone : (x : Step) → Takes t x → length (l.log o) ≤ i → l.runs o ≡ false → (length ((moved l x).log o) ≤ i) × ((moved l x).runs o ≡ false)
  unfolding Takes
  step_gone (carried s e ms) a k r = elim (ℕ_discrete o (subject e)) [
    | yes q ↦ contradiction (subject_runs t e a.asked) (rw q at (sym (p.runs o h) ∙ r))
    | no q ↦ let b = log_other l s e ms o q in (rw b.0 k, rw b.1 r)
  ]

course_gone : {n : ℕ} {s₀ : State} {t : Table} {l : Ledger} → Moment n s₀ t l → (xs : List Step) (u : Table) → Course stepped Takes t xs u → (o : ℕ) → Among n o → (i : ℕ)
    → length (l.log o) ≤ i → l.runs o ≡ false → (length ((foldl moved l xs).log o) ≤ i) × ((foldl moved l xs).runs o ≡ false)
unfolding Course
course_gone m [] u c o h i k r = (k, r)
course_gone {t = t} m (x ∷ xs) u c o h i k r =
    let b = step_gone m.recorded o h i x c.0 k r in
    course_gone {t = stepped t x} (step-moment m x c.0) xs u c.1 o h i b.0 b.1

-- what a stop cuts away is gone
course_cut : {n : ℕ} {s₀ : State} {t : Table} {l : Ledger} → Moment n s₀ t l → (xs : List Step) (u : Table) → Course stepped Takes t xs u → (o : ℕ) → Among n o → (i : ℕ)
    → CutAway xs o i → length ((foldl moved l xs).log o) ≤ i
unfolding Course CutAway
course_cut m [] u q o h i z = elim z [ ]
course_cut {t = t} m (carried s (Send c y) ms ∷ xs) u q o h i z = course_cut {t = stepped t (carried s (Send c y) ms)} (step-moment m (carried s (Send c y) ms) q.0) xs u q.1 o h i z
course_cut {t = t} m (carried s (Handover r d) ms ∷ xs) u q o h i z = course_cut {t = stepped t (carried s (Handover r d) ms)} (step-moment m (carried s (Handover r d) ms) q.0) xs u q.1 o h i z
course_cut {t = t} {l = l} m (carried s (Stop c j) ms ∷ xs) u q o h i z =
    let k = step-moment m (carried s (Stop c j) ms) q.0 in
    elim z [
      | inl e ↦ let b = stopped_log l s c j ms in (course_gone k xs u q.1 o h i (rw (← e.0) (omega (arith, b.0, e.1))) (rw (← e.0) b.1)).0
      | inr e ↦ course_cut {t = stepped t (carried s (Stop c j) ms)} k xs u q.1 o h i e
    ]

cut_later : (x : Step) (xs : List Step) (o i : ℕ) → CutAway xs o i → CutAway (x ∷ xs) o i
unfolding CutAway
cut_later (carried s (Send c y) ms) xs o i z = z
cut_later (carried s (Handover r d) ms) xs o i z = z
cut_later (carried s (Stop c k) ms) xs o i z = inr z

fate : {n : ℕ} {s₀ : State} {t : Table} {l : Ledger} → Moment n s₀ t l → (xs : List Step) (u : Table) → Course stepped Takes t xs u → (o : ℕ) → Among n o → (i : ℕ)
    → i < length (l.log o) → Fate l (foldl moved l xs) xs o i
unfolding Course
fate m [] u c o h i k = stands k refl
fate {t = t} m (x ∷ xs) u c o h i k = elim (step_fate m.recorded o h i x c.0 k xs) [
  | gone z s r ↦ let b = course_gone (step-moment m x c.0) xs u c.1 o h i s r in gone z b.0 b.1
  | stands s e ↦ elim (fate {t = stepped t x} (step-moment m x c.0) xs u c.1 o h i s) [
    | stands s' e' ↦ stands s' (e' ∙ e)
    | gone z s r ↦ gone (cut_later x xs o i z) s r
  ]
]

-- THE RECEIVER AND THE MESSAGES

-- what steps in which r does not act leave of a table
record Left (t u : Table) (r : ℕ) : Type 0 where
  same : at u r ≡ at t r
  fewer : t.count ≤ u.count
  messages : (s : ℕ) → s < t.count → message u s ≡ message t s

next_messages : (t : Table) (e : Event) → (t.count ≤ (next t e).count) × ((s : ℕ) → s < t.count → message (next t e) s ≡ message t s)
unfolding next with_sent with_controller with_message message_in
next_messages t (Send c y) = (omega arith, λ s h. message_old t (sent_message (messages_of t) (at t c) c y) s h)
next_messages t (Handover r o) = (omega arith, λ s h. refl)
next_messages t (Stop c k) = (omega arith, λ s h. refl)

others_leave : {n : ℕ} {s₀ : State} {t : Table} {l : Ledger} → Moment n s₀ t l → (xs : List Step) (u : Table) → Course stepped Takes t xs u → (r : ℕ) → Among n r
    → acts_in r xs ≡ 0 → Left t u r
unfolding Course acts_in stepped Takes
others_leave m [] u c r h q = rw (← c) (record { same = refl; fewer = omega arith; messages = λ s k. refl })
others_leave {n} {t = t} m (carried s e ms ∷ xs) u c r h q =
    let z = tally-plus (eqb (subject e) r) (acts_in r xs) in
    let b = others_leave {t = next t e} (step-moment m (carried s e ms) c.0) xs u c.1 r h (omega (arith, q, z)) in
    let f = m.recorded.formed in
    let g : Among t.n r = rw m.recorded.size h in
    let d = next_messages t e in
    record {
      same = b.same ∙ next_other t e r (seated f.few (subject_allowed t e c.0.asked)) (seated f.few g) (λ d. omega (arith, q, z, ap (λ b. tally b 0) (eq-eqb (subject e) r (sym d))));
      fewer = omega (arith, b.fewer, d.0);
      messages = λ j k. b.messages j (omega (arith, k, d.0)) ∙ d.1 j k;
    }

-- THE SET

-- the names of a set of these messages, of others that have the same names so far
names_same : (k : ℕ) (M N : List Message) (S : Slots) → ((s : ℕ) → s < k → message_in N s ≡ message_in M s) → names_below k N S ≡ names_below k M S
unfolding names_below
names_same zero M N S h = refl
names_same (suc k) M N S h = rw (names_same k M N S (λ s l. h s (omega arith)), h k (omega arith)) refl

-- and with more messages, of which none is in the set
names_beyond : (k : ℕ) (M : List Message) (S : Slots) → ((s : ℕ) → member S s ≡ true → s < k) → (j : ℕ) → k ≤ j → names_below j M S ≡ names_below k M S
unfolding names_below
names_beyond k M S h zero l = let z : k ≡ 0 = omega arith in rw z refl
names_beyond k M S h (suc j) l = elim (dec_lt j k) [
  | yes b ↦ let z : k ≡ suc j = omega arith in rw z refl
  | no b ↦ rw (refuted (member S j) (λ e. omega (arith, h j e))) (names_beyond k M S h j (omega arith))
]

names-left : (t u : Table) (r : ℕ) → Left t u r → (S : Slots) → ((s : ℕ) → member S s ≡ true → s < t.count) → names_of (messages_of u) S ≡ names_of (messages_of t) S
unfolding names_of
names-left t u r b S h =
    names_beyond t.count u.messages S h u.count b.fewer ∙ names_same t.count t.messages u.messages S b.messages

-- what is received depends on the log of y by the entry alone
received-same : (M N : Messages) (x y z : Controller) (o : ℕ) → next_slot x y o ≡ next_slot x z o → message_in M.slots (next_slot x z o) ≡ message_in N.slots (next_slot x z o)
    → received M x y o ≡ received N x z o
unfolding received
received-same M N x y z o e m = rw (e, m) refl

-- where its entry stands as it did, a handover of r applies the set that it would have applied
module _ {n : ℕ} {t u : Table} {l k : Ledger} (p : Recorded n t l) (q : Recorded n u k) (r o : ℕ) (a : HandoverAllowed t r o) (b : Left t u r) where
  run : next_at t r o < t.count
  run = next_slot_run t p.formed r o a

  same_set : next_slot (at t r) (at u o) o ≡ next_at t r o → set_at u r o ≡ set_at t r o
  unfolding handover_set
  same_set e =
      let c = received-same (messages_of u) (messages_of t) (at t r) (at u o) (at t o) o e (b.messages (next_at t r o) run) in
      rw (q.size, p.size, b.same, c) refl

  same_names : next_slot (at t r) (at u o) o ≡ next_at t r o → names_of (messages_of u) (set_at u r o) ≡ names_of (messages_of t) (set_at t r o)
  same_names e = rw (same_set e) (names-left t u r b (set_at t r o) (set_of_run t p.formed p.sized r o a))

  -- one name, one slot
  same-entry : get_or (k.log o) (place (at t r) o) no_name ≡ get_or (l.log o) (place (at t r) o) no_name → place (at t r) o < (at u o).length
      → next_slot (at t r) (at u o) o ≡ next_at t r o
  unfolding next_slot
  same-entry e h =
      let i = place (at t r) o in
      let su = slot_at (at u o) i in
      let st = slot_at (at t o) i in
      let hn : Among n o = rw p.size at a.owner in
      let there : name_at u su ≡ get_or (k.log o) i no_name = sym (ap (λ xs. get_or xs i no_name) (q.logs o hn) ∙ log_at u (at u o) i h) in
      let here : get_or (l.log o) i no_name ≡ name_at t st = ap (λ xs. get_or xs i no_name) (p.logs o hn) ∙ log_at t (at t o) i a.unread in
      let names : name_at u su ≡ name_at u st = there ∙ (e ∙ (here ∙ sym (ap (λ (m : Message). name_of m) (b.messages st run)))) in
      slot_of u q.formed su st ((q.formed.controllers o (rw q.size hn)).log_run i h) (omega (arith, run, b.fewer)) (rw names (same_self (name_at u st)))

-- BETWEEN AN ASK AND ITS COMMIT

-- steps in which r does not act, from a handover that is allowed: the set that it applies is the same, or its entry is cut away and unread no more
pub data Since (t u : Table) (xs : List Step) (r o : ℕ) : Type 0 where
  shown : (CutAway xs o (place (at t r) o) → ⊥) → place (at u r) o < (at u o).length → names_of (messages_of u) (set_at u r o) ≡ names_of (messages_of t) (set_at t r o) → Since t u xs r o
  cut : CutAway xs o (place (at t r) o) → (at u o).length ≤ place (at u r) o → Since t u xs r o

pub since : {n : ℕ} {s₀ : State} {t : Table} {l : Ledger} (m : Moment n s₀ t l) (xs : List Step) (u : Table) → Course stepped Takes t xs u → (r o : ℕ)
    → HandoverAllowed t r o → acts_in r xs ≡ 0 → (at u r ≡ at t r) × Since t u xs r o
since {n} {t = t} {l} m xs u c r o a z =
    let p = m.recorded in
    let q = (moment-after m xs c).recorded in
    let hr : Among n r = rw p.size at a.receiver in
    let ho : Among n o = rw p.size at a.owner in
    let b = others_leave m xs u c r hr z in
    let size : length ((foldl moved l xs).log o) ≡ (at u o).length = ap length (q.logs o ho) ∙ length_log u (at u o) in (
      b.same,
      elim (fate m xs u c o ho (place (at t r) o) (omega (arith, a.unread, ap length (p.logs o ho), length_log t (at t o)))) [
        | stands h e ↦ let h : place (at t r) o < (at u o).length = omega (arith, h, size) in shown (λ z. omega (arith, h, size, course_cut m xs u c o ho (place (at t r) o) z)) (rw b.same h) (same_names p q r o a b (same-entry p q r o a b e h))
        | gone y h _ ↦ cut y (rw b.same (omega (arith, h, size)))
      ],
    )

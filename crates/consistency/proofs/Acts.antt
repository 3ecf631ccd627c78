-- The act count of a table is the number of the steps so far in which its controller acted. Assumes nothing.
use mathlib.Core.Path.{◌≡◌, refl, sym, ap, ◌∙◌}
use mathlib.Core.Bool.{Bool, true, false, cond}
use mathlib.Core.List.{List, [], ◌∷◌, ◌++◌, foldl}
use Prim.Native.Nat.{ℕ, zero, suc, ◌+◌, ◌-◌}
use native.Mathlib.Omega.{arith}
use lib.ListN.{length, get_or}
use lib.Dec.{eqb}
use borrow.Author.Tests.{eq-eqb, ne_eqb}
use Rattle.lists.specs.Below.{tally, count, sum}
use Rattle.lists.specs.Build.{tabulate, tabulate_from}
use Rattle.lists.proofs.Below.{tally-plus, sum_ext, sum_bound, sum_raised}
use Rattle.lists.proofs.Grow.{tabulate-suc}
use Rattle.model.specs.Tables.{Among, at, message_in}
use Rattle.model.specs.Events.{subject}
use Rattle.previews.specs.Previews.{sends_by, reads_by, act_count, acts_of}
use Rattle.model.specs.declared.Table.{Table}
use Rattle.model.specs.declared.Event.TheVariants.{Send, Handover, Stop}
use Rattle.model.proofs.Allowed.{handover_allowed, stop_allowed}
use Rattle.broadcast.specs.State.{State}
use Rattle.consistency.specs.Entries.{name, Step, carried}
use Rattle.consistency.specs.Ledger.{Sent, Ledger, date_for, start, put, moved}
use Rattle.consistency.specs.Dispatches.{acts_in}
use Rattle.consistency.specs.Courses.{Course}
use Rattle.consistency.proofs.Recorded.{sent_at, Recorded}
use Rattle.consistency.proofs.RecordedChanges.{put_case}
use Rattle.consistency.proofs.Moments.{stepped, Takes, Moment, step-moment, moment-after}
use Rattle.consistency.proofs.Places.{put-here, put_there}

-- BY THE LEDGER

-- how many of these c sent
unfoldable sends_in : ℕ → List Sent → ℕ
sends_in c [] = 0
sends_in c (x ∷ xs) = tally (eqb x.name.sender c) (sends_in c xs)

abbrev acts_by : ℕ → Ledger → ℕ → ℕ
acts_by n l c = sends_in c l.sent + (sum n (λ o. l.place c (suc o)) + cond (l.runs c) 0 1)

sends_more : (c : ℕ) (xs : List Sent) (x : Sent) → sends_in c (xs ++ (x ∷ [])) ≡ tally (eqb x.name.sender c) (sends_in c xs)
unfolding sends_in
sends_more c [] x = refl
sends_more c (y ∷ xs) x = rw (sends_more c xs x) (swap (eqb y.name.sender c) (eqb x.name.sender c))
  where
    k : ℕ
    k = sends_in c xs

    swap : (a b : Bool) → tally a (tally b k) ≡ tally b (tally a k)
    swap a b = omega (arith, tally-plus a k, tally-plus b k, tally-plus a (tally b k), tally-plus b (tally a k))

sends_tabulate : (c k : ℕ) (f : ℕ → Sent) → sends_in c (tabulate k f) ≡ count k (λ s. eqb (f s).name.sender c)
unfolding sends_in tabulate tabulate_from count
sends_tabulate c zero f = refl
sends_tabulate c (suc k) f =
    ap (sends_in c) (tabulate-suc f k) ∙ (sends_more c (tabulate k f) (f k) ∙ ap (tally (eqb (f k).name.sender c)) (sends_tabulate c k f))

-- the ledger and the table have the same count
acts_recorded : {n : ℕ} {t : Table} {l : Ledger} → Recorded n t l → (c : ℕ) → Among n c → acts_of t c ≡ acts_by n l c
unfolding act_count sends_by reads_by message_in
acts_recorded {n} {t} {l} p c h =
    let sends = ap (sends_in c) p.sent ∙ sends_tabulate c t.count (sent_at t) in
    let reads : sum n (λ o. get_or (at t c).read o 0) ≡ sum n (λ o. l.place c (suc o))
    = sum_ext n _ _ (λ o k. let z : suc o - 1 ≡ o = omega arith in
    sym (p.places c (suc o) h (record { low = omega arith; high = k }) ∙ ap (λ i. get_or (at t c).read i 0) z)) in
    rw (p.size, reads, sends, p.runs c h) refl

-- ONE STEP

module _ {n : ℕ} {t : Table} {l : Ledger} (p : Recorded n t l) (c : ℕ) (h : Among n c) where
  -- a read position of a handover to r: one more for r, and for nobody else
  row_moved : (r o : ℕ) → Among n o
      → sum n (λ j. put l.place r (put (l.place r) o (l.place r o + 1)) c (suc j)) ≡ sum n (λ j. l.place c (suc j)) + tally (eqb r c) 0
  row_moved r zero k = absurd (omega (arith, k.low))
  row_moved r (suc o) k =
      put_case (λ (f : ℕ → ℕ). sum n (λ j. f (suc j)) ≡ sum n (λ j. l.place c (suc j)) + tally (eqb r c) 0) l.place r _ c
      (λ e. rw (e, eq-eqb r r refl) (sum_raised n (λ j. l.place r (suc j)) _ o 1 k.high (put-here (l.place r) (suc o) _)
      (λ j _ d. put_there (l.place r) (suc o) _ (suc j) (λ e. d (omega (arith, e))))))
      (λ d. rw (ne_eqb r c (λ e. d (sym e))) (omega arith))

  runs_moved : (d : ℕ) → l.runs d ≡ true → cond (put l.runs d false c) 0 1 ≡ cond (l.runs c) 0 1 + tally (eqb d c) 0
  runs_moved d q =
      put_case (λ b. cond b 0 1 ≡ cond (l.runs c) 0 1 + tally (eqb d c) 0) l.runs d false c
      (λ e. rw (e, q, eq-eqb d d refl) refl) (λ n. rw (ne_eqb d c (λ e. n (sym e))) (omega arith))

  acts_moved : (x : Step) → Takes t x → acts_by n (moved l x) c ≡ acts_by n l c + acts_in c (x ∷ [])
  unfolding moved Takes acts_in subject
  acts_moved (carried s (Send d y) ms) a =
      let m : Sent = record { name = name d (length (l.log d) + 1); date = date_for l d s; payload = y; said = s } in
      omega (arith, sends_more c l.sent m, tally-plus (eqb d c) (sends_in c l.sent))
  acts_moved (carried s (Handover r o) ms) a =
      let k = handover_allowed t r o a.asked in
      omega (arith, row_moved r o (rw p.size at k.owner))
  acts_moved (carried s (Stop d k) ms) a =
      let q = stop_allowed t d k a.asked in
      omega (arith, runs_moved d (p.runs d (rw p.size at q.controller) ∙ q.running))

-- STEPS ONE AFTER ANOTHER

steps_acts : {n : ℕ} {s₀ : State} {t : Table} {l : Ledger} → Moment n s₀ t l → (xs : List Step) (u : Table) → Course stepped Takes t xs u → (c : ℕ) → Among n c
    → acts_by n (foldl moved l xs) c ≡ acts_by n l c + acts_in c xs
unfolding Course acts_in
steps_acts m [] u p c h = omega arith
steps_acts {t = t} m (carried s e ms ∷ xs) u p c h = omega (
  arith,
  acts_moved m.recorded c h (carried s e ms) p.0,
  steps_acts {t = stepped t (carried s e ms)} (step-moment m (carried s e ms) p.0) xs u p.1 c h,
  tally-plus (eqb (subject e) c) (acts_in c xs),
)

-- from one table to another, and from the start
pub acts_since : {n : ℕ} {s₀ : State} {t : Table} {l : Ledger} → Moment n s₀ t l → (xs : List Step) (u : Table) → Course stepped Takes t xs u → (c : ℕ) → Among n c
    → acts_of u c ≡ acts_of t c + acts_in c xs
acts_since m xs u p c h =
    acts_recorded (moment-after m xs p).recorded c h ∙ (steps_acts m xs u p c h ∙ ap (λ k. k + acts_in c xs) (sym (acts_recorded m.recorded c h)))

pub acts_start : {n : ℕ} {t : Table} → Recorded n t start → (c : ℕ) → Among n c → acts_of t c ≡ 0
unfolding start sends_in
acts_start {n} p c h = acts_recorded p c h ∙ omega (arith, sum_bound n (λ o. 0) 0 (λ _ _. omega arith))

-- Read positions along a list: none falls, an entry waits until it is read if nobody stops, and each handover moves one position on by one.
-- So a list has no more handovers than positions can move. Assumes nothing.
use mathlib.Core.Path.{◌≡◌, refl, ap, ◌∙◌}
use mathlib.Core.Logic.{◌≢◌, ◌⊎◌, inl, inr}
use mathlib.Core.Bool.{cond, true≢false}
use mathlib.Core.List.{List, [], ◌∷◌, ◌++◌, foldl}
use Prim.Native.Nat.{ℕ, zero, suc, ◌+◌, ◌*◌, ◌≤◌, ◌<◌}
use native.Mathlib.Nat.{mul-le-mul}
use native.Mathlib.Omega.{arith}
use lib.ListN.{length, get_or, length-append}
use Rattle.lists.specs.Below.{sum}
use Rattle.lists.proofs.Tests.{cond_case}
use Rattle.lists.proofs.Below.{tally-plus, sum_bound, sum_raised}
use Rattle.model.specs.Tables.{seats, capacity, no_name, Among}
use Rattle.model.specs.declared.Name.{Name}
use Rattle.model.specs.declared.Table.{Table}
use Rattle.model.specs.declared.Event.TheVariants.{Send, Handover, Stop}
use Rattle.model.proofs.Allowed.{handover_allowed}
use Rattle.broadcast.specs.State.{State}
use Rattle.consistency.specs.Entries.{name, has, Step, carried}
use Rattle.consistency.specs.Ledger.{Ledger, put, moved}
use Rattle.consistency.specs.Dispatches.{is_stop, is_handover, NoStop, handover_count}
use Rattle.consistency.specs.Demand3.{Waiting}
use Rattle.consistency.specs.Courses.{Course}
use Rattle.consistency.proofs.Recorded.{Recorded}
use Rattle.consistency.proofs.RecordedChanges.{put_case}
use Rattle.consistency.proofs.Moments.{stepped, Takes, Moment, step-moment, moment-after}

pub put-here : {A : Type 0} (f : ℕ → A) (x : ℕ) (v : A) → put f x v x ≡ v
put-here f x v = put_case (λ z. z ≡ v) f x v x (λ _. refl) (λ n. absurd (n refl))

pub put_there : {A : Type 0} (f : ℕ → A) (x : ℕ) (v : A) (y : ℕ) → y ≢ x → put f x v y ≡ f y
put_there f x v y n = put_case (λ z. z ≡ f y) f x v y (λ e. absurd (n e)) (λ _. refl)

-- A POSITION

moved-place : (l : Ledger) (x : Step) (r o : ℕ) → l.place r o ≤ (moved l x).place r o
unfolding moved
moved-place l (carried s (Send c p) ms) r o = omega arith
moved-place l (carried s (Stop c k) ms) r o = omega arith
moved-place l (carried s (Handover a b) ms) r o =
    put_case (λ (f : ℕ → ℕ). l.place r o ≤ f o) l.place a (put (l.place a) b (l.place a b + 1)) r
    (λ e. put_case (λ k. l.place r o ≤ k) (l.place a) b (l.place a b + 1) o (λ d. rw (e, d) (omega arith)) (λ _. rw e (omega arith)))
    (λ _. omega arith)

pub places_grow : (l : Ledger) (xs : List Step) (r o : ℕ) → l.place r o ≤ (foldl moved l xs).place r o
places_grow l [] r o = omega arith
places_grow l (x ∷ xs) r o = omega (arith, moved-place l x r o, places_grow (moved l x) xs r o)

-- AN ENTRY THAT WAITS: in a later ledger it has been read, or waits still

pub data Since (n : ℕ) (l k : Ledger) (r o : ℕ) : Type 0 where
  read : l.place r o < k.place r o → Since n l k r o
  waiting : k.place r o ≡ l.place r o → Waiting n k r o → Since n l k r o

-- a log with an entry more is no shorter, nor is any other
longer : (f : ℕ → List Name) (c : ℕ) (m : Name) (o : ℕ) → length (f o) ≤ length (put f c (f c ++ (m ∷ [])) o)
longer f c m o = put_case (λ ys. length (f o) ≤ length ys) f c _ o (λ e. rw e (omega (arith, length-append (f c) (m ∷ [])))) (λ _. omega arith)

-- nor where the entry is only added if it is not there
no_shorter : (f : ℕ → List Name) (c : ℕ) (m : Name) (o : ℕ) → length (f o) ≤ length (put f c (cond (has m (f c)) (f c) (f c ++ (m ∷ []))) o)
no_shorter f c m o =
    cond_case (λ ys. length (f o) ≤ length (put f c ys o)) (has m (f c)) _ _
    (λ _. put_case (λ ys. length (f o) ≤ length ys) f c (f c) o (λ e. rw e (omega arith)) (λ _. omega arith)) (λ _. longer f c m o)

module _ {n : ℕ} (l : Ledger) (r o : ℕ) where
  moved-waits : (x : Step) → NoStop (x ∷ []) → Waiting n l r o → Since n l (moved l x) r o
  unfolding moved NoStop is_stop
  moved-waits (carried s (Send c p) ms) h w = waiting refl (record {
    receiver = record { named = w.receiver.named; running = w.receiver.running };
    owner = w.owner;
    unread = omega (arith, w.unread, longer l.log c (name c (length (l.log c) + 1)) o);
  })
  moved-waits (carried s (Stop c k) ms) h w = absurd (true≢false h.0)
  moved-waits (carried s (Handover a b) ms) h w = elim handed [
    | inl e ↦ read e
    | inr e ↦ waiting e (record {
      receiver = record { named = w.receiver.named; running = w.receiver.running };
      owner = w.owner;
      unread = omega (arith, w.unread, e, no_shorter l.log a (get_or (l.log b) (l.place a b) no_name) o);
    })
  ]
    where
      -- its own position, or another's
      handed : (l.place r o < put l.place a (put (l.place a) b (l.place a b + 1)) r o) ⊎ (put l.place a (put (l.place a) b (l.place a b + 1)) r o ≡ l.place r o)
      handed =
          put_case (λ (f : ℕ → ℕ). (l.place r o < f o) ⊎ (f o ≡ l.place r o)) l.place a (put (l.place a) b (l.place a b + 1)) r
          (λ e. put_case (λ k. (l.place r o < k) ⊎ (k ≡ l.place r o)) (l.place a) b (l.place a b + 1) o (λ d. inl (rw (e, d) (omega arith))) (λ _. inr (rw e refl)))
          (λ _. inr refl)

-- and so of steps one after another
pub steps_wait : {n : ℕ} (l : Ledger) (xs : List Step) (r o : ℕ) → NoStop xs → Waiting n l r o → Since n l (foldl moved l xs) r o
unfolding NoStop
steps_wait l [] r o h w = waiting refl w
steps_wait {n} l (carried s e ms ∷ xs) r o h w = elim (moved-waits l r o (carried s e ms) (h.0, tt) w) [
  | read b ↦ read (omega (arith, b, places_grow (moved l (carried s e ms)) xs r o))
  | waiting q v ↦ elim (steps_wait {n = n} (moved l (carried s e ms)) xs r o h.1 v) [
    | read b ↦ read (omega (arith, b, q))
    | waiting e v ↦ waiting (e ∙ q) v
  ]
]

-- ALL POSITIONS of n controllers together

abbrev total : ℕ → Ledger → ℕ
total n l = sum n (λ i. sum n (λ j. l.place (suc i) (suc j)))

pub total_bound : {n : ℕ} {t : Table} {l : Ledger} → Recorded n t l → total n l ≤ 3136
total_bound {n} {t} {l} p =
    let few : n ≤ seats = rw (← p.size) p.formed.few in
    let each : (r o : ℕ) → r < n → o < n → l.place (suc r) (suc o) ≤ capacity
    = λ r o a b.
    let hr : Among n (suc r) = record { low = omega arith; high = a } in
    let ho : Among n (suc o) = record { low = omega arith; high = b } in
    let g : Among t.n (suc r) = rw p.size hr in
    let k : Among t.n (suc o) = rw p.size ho in
    omega (arith, p.places (suc r) (suc o) hr ho, (p.formed.controllers (suc r) g).places (suc o) k, (p.formed.controllers (suc o) k).log_room) in
    omega (
      arith,
      sum_bound n (λ i. sum n (λ j. l.place (suc i) (suc j))) (n * capacity) (λ r a. sum_bound n (λ j. l.place (suc r) (suc j)) capacity (λ o b. each r o a b)),
      mul-le-mul {n₁ = n} {m₁ = n * capacity} {n₂ = seats} {m₂ = seats * capacity} few (mul-le-mul {n₁ = n} {m₁ = capacity} {n₂ = seats} {m₂ = capacity} few (omega arith)),
    )

-- a handover adds one, and nothing else changes any
moved_total : {n : ℕ} {t : Table} {l : Ledger} → Recorded n t l → (x : Step) → Takes t x → total n (moved l x) ≡ total n l + handover_count (x ∷ [])
unfolding moved Takes handover_count is_handover
moved_total p (carried s (Send c y) ms) a = omega arith
moved_total p (carried s (Stop c k) ms) a = omega arith
moved_total p (carried s (Handover zero o) ms) a = absurd (omega (arith, (handover_allowed _ zero o a.asked).receiver.low))
moved_total p (carried s (Handover (suc r) zero) ms) a = absurd (omega (arith, (handover_allowed _ (suc r) zero a.asked).owner.low))
moved_total {n} {t} {l} p (carried s (Handover (suc r) (suc o)) ms) a =
    let h = handover_allowed t (suc r) (suc o) a.asked in
    let f = l.place (suc r) in
    let row = put f (suc o) (f (suc o) + 1) in
    let here : put l.place (suc r) row (suc r) ≡ row = put-here l.place (suc r) row in
    sum_raised n (λ i. sum n (λ j. l.place (suc i) (suc j))) (λ i. sum n (λ j. put l.place (suc r) row (suc i) (suc j))) r 1 (omega (arith, h.receiver.high, p.size))
    (rw here (sum_raised n (λ j. f (suc j)) (λ j. row (suc j)) o 1 (omega (arith, h.owner.high, p.size)) (put-here f (suc o) (f (suc o) + 1))
    (λ j _ d. put_there f (suc o) (f (suc o) + 1) (suc j) (λ e. d (omega (arith, e))))))
    (λ i _ d. ap (λ (g : ℕ → ℕ). sum n (λ j. g (suc j))) (put_there l.place (suc r) row (suc i) (λ e. d (omega (arith, e)))))

steps_total : {n : ℕ} {s₀ : State} {t : Table} {l : Ledger} → Moment n s₀ t l → (xs : List Step) (u : Table) → Course stepped Takes t xs u
    → total n (foldl moved l xs) ≡ total n l + handover_count xs
unfolding Course handover_count
steps_total m [] u p = omega arith
steps_total {t = t} m (carried s e ms ∷ xs) u p = omega (
  arith,
  moved_total m.recorded (carried s e ms) p.0,
  steps_total {t = stepped t (carried s e ms)} (step-moment m (carried s e ms) p.0) xs u p.1,
  tally-plus (is_handover e) (handover_count xs),
)

-- from a moment on, no more handovers are accepted than this
pub few_handovers : {n : ℕ} {s₀ : State} {t : Table} {l : Ledger} → Moment n s₀ t l → (xs : List Step) (u : Table) → Course stepped Takes t xs u → handover_count xs ≤ 3136
few_handovers m xs u p = omega (arith, steps_total m xs u p, total_bound (moment-after m xs p).recorded)

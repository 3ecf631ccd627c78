-- The dispatcher is fair: an entry that waits is nearer with each of its handovers, and within n x n of them it is read, by one of these or
-- by another handover. Assumes nothing.
use mathlib.Core.Path.{◌≡◌, refl, sym, ap, ◌∙◌}
use mathlib.Core.Logic.{◌⊎◌, inl, inr}
use mathlib.Core.Bool.{true}
use mathlib.Core.List.{List, [], ◌∷◌, ◌++◌, flat_map, foldl, foldl-append}
use Prim.Native.Nat.{ℕ, zero, suc, ◌+◌, ◌-◌, ◌*◌, ◌≤◌, ◌<◌}
use native.Mathlib.Omega.{arith}
use lib.ListN.{length}
use borrow.Author.Tests.{lt-ltb}
use Rattle.lists.proofs.Tests.{both}
use Rattle.model.specs.Tables.{at, place}
use Rattle.model.specs.Questions.{unread}
use Rattle.model.specs.Calls.{EventAnswer}
use Rattle.turns.specs.Dispatcher.{pair, some?, handover, waits, next_pair, DispatchOutcome, with_handover, dispatch}
use Rattle.model.specs.declared.Name.{Name}
use Rattle.model.specs.declared.Pair.{Pair}
use Rattle.model.specs.declared.Table.{Table}
use Rattle.model.proofs.Allowed.{handover_allowed}
use Rattle.turns.specs.Claims.{InRange}
use Rattle.turns.proofs.Dispatching.{after, Distance, Nearer, nearer, dispatch_some}
use Rattle.broadcast.specs.State.{State}
use Rattle.consistency.specs.Entries.{dispatching, committing, Entry, answered, observed, served, handed, listed, nothing_said, Step, carried, steps, did}
use Rattle.consistency.specs.Ledger.{Ledger, put, moved}
use Rattle.consistency.specs.Dispatches.{NoStop, dispatch_in, dispatches, FollowOn}
use Rattle.consistency.specs.Demand3.{Waiting}
use Rattle.consistency.specs.Courses.{Course, told, Chooses, Gives}
use Rattle.consistency.proofs.SlotNames.{length_log}
use Rattle.consistency.proofs.Recorded.{Recorded}
use Rattle.consistency.proofs.Moments.{told-version, entry-taken, Moment, moment-after}
use Rattle.consistency.proofs.Places.{put-here, places_grow, read, waiting, steps_wait}

-- an entry that waits by the ledger is one that the dispatcher finds in the table
ledger-waits : {n : ℕ} {t : Table} {l : Ledger} → Recorded n t l → (r o : ℕ) → Waiting n l r o → waits t.controllers (pair r o) ≡ true
unfolding waits unread
ledger-waits {n} {t} p r o w =
    let h = w.receiver.named in
    both (sym (p.runs r h) ∙ w.receiver.running)
    (lt-ltb (place (at t r) o) (at t o).length (omega (arith, w.unread, p.places r o h w.owner, ap length (p.logs o w.owner), length_log t (at t o))))

no_stop_append : (xs ys : List Step) → NoStop (xs ++ ys) → NoStop xs × NoStop ys
unfolding NoStop
no_stop_append [] ys h = (tt, h)
no_stop_append (carried s e ms ∷ xs) ys h = let k = no_stop_append xs ys h.1 in ((h.0, k.0), k.1)

module _ (n v r o : ℕ) where
  -- from a ledger on, along entries: the entry has been read, or the dispatcher has made fewer than d handovers, if after the pair p it is
  -- within d places
  abbrev Read : ℕ → Pair → Ledger → List Entry → Type 0
  Read d p l es =
      NoStop (did v es) → FollowOn p (dispatches es) → Waiting n l r o → (InRange n p → Distance n d p (pair r o))
      → (l.place r o < (foldl moved l (did v es)).place r o) ⊎ (length (dispatches es) < d)

  -- an entry that is no handover of the dispatcher's
  passed : {d : ℕ} {p : Pair} (l : Ledger) (e : Entry) (es : List Entry) → dispatch_in e ≡ [] → Read d p (foldl moved l (steps v e)) es → Read d p l (e ∷ es)
  unfolding flat_map
  passed l e es q f h g w near =
      let h = no_stop_append (steps v e) (did v es) h in
      rw (foldl-append moved l (steps v e) (did v es), q) (elim (steps_wait {n = n} l (steps v e) r o h.0 w) [
        | read b ↦ inl (omega (arith, b, places_grow (foldl moved l (steps v e)) (did v es) r o))
        | waiting k v ↦ elim (f h.1 (rw q at g) v near) [ inl b ↦ inl (omega (arith, b, k)) | inr b ↦ inr b ]
      ])

  -- a handover of the dispatcher's: what waits is fewer places after the pair served than it was after the pair named
  served_nearer : {s₀ : State} {t : Table} {l : Ledger} → Moment n s₀ t l → (d : ℕ) (p q : Pair) (w : List ℕ) (a : EventAnswer) → d ≤ n * n
      → Gives t (handed (dispatching p w) q a) → Waiting n l r o → (InRange n p → Distance n d p (pair r o)) → Nearer n d t.controllers (pair r o) q
  unfolding Gives Chooses with_handover
  served_nearer {t = t} m d p q w a le g wt near =
      let some : some? (dispatch t p (length w)).answer.pair ≡ true
      = rw (← g.2) (lt-ltb 0 q.receiver (handover_allowed t q.receiver q.owner g.0).receiver.low) in
      let s = dispatch_some t p (length w) some in
      let i : InRange n p = rw m.recorded.size at s.0.passed.named in
      let c = near i in
      let f = nearer n t.controllers p (pair r o) c.places i c.some (omega (arith, c.few, le)) c.reaches (ledger-waits m.recorded r o wt) in
      let is : q ≡ next_pair n t.controllers p = rw m.recorded.size at (g.2 ∙ ap (λ (x : DispatchOutcome). x.answer.pair) s.1) in
      rw is (record { range = f.range; waiting = f.waiting; places = f.places; fewer = omega (arith, f.fewer, c.few); reaches = f.reaches })

  -- that pair's own entry is read
  own_read : (l : Ledger) (q : Pair) (ms : List Name) → q ≡ pair r o → (moved l (carried nothing_said (handover q) ms)).place r o ≡ l.place r o + 1
  unfolding moved
  own_read l q ms e = rw (e, put-here l.place r (put (l.place r) o (l.place r o + 1))) (put-here (l.place r) o (l.place r o + 1))

  dispatched : {s₀ : State} {t : Table} {l : Ledger} → Moment n s₀ t l → (d : ℕ) (p x q : Pair) (w : List ℕ) (a : EventAnswer) (es : List Entry) → d ≤ n * n
      → Gives t (handed (dispatching x w) q a)
      → ((k : ℕ) → 0 < k → k ≤ n * n → Read k q (moved l (carried nothing_said (handover q) a.names)) es) → Read d p l (handed (dispatching x w) q a ∷ es)
  unfolding flat_map dispatch_in steps FollowOn after
  dispatched {l = l} m d p x q w a es le g f h fo wt near =
      let st = carried nothing_said (handover q) a.names in
      let hs = no_stop_append (st ∷ []) (did v es) h in
      let c = served_nearer m d p q w a le (rw fo.0 at g) wt near in
      elim (steps_wait {n = n} l (st ∷ []) r o hs.0 wt) [
        | read b ↦ inl (omega (arith, b, places_grow (moved l st) (did v es) r o))
        | waiting k still ↦
            let some : 0 < c.places = away c.places c.reaches k in
            elim (f (d - 1) (omega (arith, some, c.fewer)) (omega (arith, le)) hs.1 fo.1 still
            (λ _. record { places = c.places; some = some; few = omega (arith, c.fewer); reaches = c.reaches })) [
              | inl b ↦ inl (omega (arith, b, k))
              | inr b ↦ inr (omega (arith, b))
            ]
      ]
    where
      away : (k : ℕ) → after n k q ≡ pair r o → (moved l (carried nothing_said (handover q) a.names)).place r o ≡ l.place r o → 0 < k
      away zero e k = absurd (omega (arith, k, own_read l q a.names e))
      away (suc j) e k = omega arith

  -- the moment after an entry
  abbrev After : State → Table → Ledger → Entry → Type 0
  After s₀ t l e = Moment n s₀ (told t e) (foldl moved l (steps v e)) × ((told t e).version ≡ v)

  past : {s₀ : State} {t : Table} {l : Ledger} → Moment n s₀ t l → t.version ≡ v → (e : Entry) → Gives t e → After s₀ t l e
  past {t = t} m q e g = (moment-after m (steps v e) (rw (← q) (entry-taken t e g)), told-version t e ∙ q)

  pub fair_course : {s₀ : State} {t : Table} {l : Ledger} → Moment n s₀ t l → t.version ≡ v → (es : List Entry) (u : Table) → Course told Gives t es u
      → (d : ℕ) (p : Pair) → 0 < d → d ≤ n * n → Read d p l es
  unfolding Course flat_map dispatch_in steps
  fair_course m q [] u c d p z le = λ _ _ _ _. inr z
  fair_course {t = t} {l = l} m q (answered s w a ∷ es) u c d p z le =
      let e = answered s w a in
      let f = past m q e c.0 in
      passed l e es refl (fair_course {t = told t e} f.0 f.1 es u c.1 d p z le)
  fair_course {t = t} {l = l} m q (observed x a ∷ es) u c d p z le =
      let e = observed x a in
      let f = past m q e c.0 in
      passed l e es refl (fair_course {t = told t e} f.0 f.1 es u c.1 d p z le)
  fair_course {t = t} {l = l} m q (served s a ∷ es) u c d p z le =
      let e = served s a in
      let f = past m q e c.0 in
      passed l e es refl (fair_course {t = told t e} f.0 f.1 es u c.1 d p z le)
  fair_course {t = t} {l = l} m q (handed (committing x k w) y a ∷ es) u c d p z le =
      let e = handed (committing x k w) y a in
      let f = past m q e c.0 in
      passed l e es refl (fair_course {t = told t e} f.0 f.1 es u c.1 d p z le)
  fair_course {t = t} {l = l} m q (listed s x ∷ es) u c d p z le =
      let e = listed s x in
      let f = past m q e c.0 in
      passed l e es refl (fair_course {t = told t e} f.0 f.1 es u c.1 d p z le)
  fair_course {t = t} m q (handed (dispatching x w) y a ∷ es) u c d p z le =
      let f = past m q (handed (dispatching x w) y a) c.0 in
      dispatched m d p x y w a es le c.0 (λ k z le. fair_course {t = told t (handed (dispatching x w) y a)} f.0 f.1 es u c.1 k y z le)

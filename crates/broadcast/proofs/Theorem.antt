-- The properties of set-constrained delivery, of every state that a run reaches: `All` holds of the fresh state and is kept (Reachable.antt).
-- Assumes nothing.
use Prim.Native.Nat.{ℕ, ◌≤◌, ◌<◌}
use mathlib.Core.Bool.{Bool, true, false}
use mathlib.Core.Path.{◌≡◌, sym, ◌∙◌}
use mathlib.Core.Logic.{◌↔◌}
use native.Mathlib.Omega.{arith}
use native.Mathlib.Decide.{ℕ_discrete, dec_lt}
use lib.Dec.{ltb}
use borrow.Author.Tests.{ltb-true, lt-ltb}
use Rattle.lists.specs.Below.{count}
use Rattle.lists.proofs.Tests.{by_contradiction}
use Rattle.lists.proofs.Below.{count-found, count_le}
use Rattle.broadcast.specs.State.{System, State, receive}
use Rattle.broadcast.specs.Delivery.{mark, Largest}
use Rattle.broadcast.specs.Events.{Run, Comparable, AllRead, Remains}
use Rattle.broadcast.proofs.Marks.{known, unknown, marked}
use Rattle.broadcast.proofs.Stable.{stable_comparable}
use Rattle.broadcast.proofs.Invariant.{Invariant}
use Rattle.broadcast.proofs.Legal.{receive_delivered}
use Rattle.broadcast.proofs.Reachable.{All, run_kept}

module _ (k : System) where
  open k use {n, quorum, top, sender}

  -- MS-ordering, as containment: of what two processes have delivered, at two moments of a run, one contains the other
  pub containment : (s u : State) → All k s → Run k s u → (i j : ℕ) → Comparable (s.delivered i) (u.delivered j)
  containment s u a p i j =
      let b = run_kept k s u a p in
      let v = a.invariant in
      stable_comparable k u.position (s.delivered i) (u.delivered j) (b.keeps_stable (s.delivered i) (v.stable i)) (b.all.invariant.stable j)
      (λ m h. (v.logs.named i m (v.logged i m h)).1)

  -- validity: what was delivered was sent
  pub delivered_sent : (s : State) → All k s → (i m : ℕ) → s.delivered i m ≡ true → s.position (sender m) m < top
  delivered_sent s a i m h = a.invariant.logs.sent i m (a.invariant.logged i m h)

  -- integrity: a process delivers only what it has not delivered
  pub deliver_new : (s : State) (r o m : ℕ) (t : ℕ → Bool) → Largest k (receive k s r o m) r t → (x : ℕ) → t x ≡ true → s.delivered r x ≡ false
  deliver_new s r o m t w x h = rw (receive_delivered k s r o m) at (w.closed.pending x h).undelivered

  -- whatever is before a delivered message in its sender's log is delivered
  pub no_overtaking : (s : State) → All k s → (i x m : ℕ) → s.delivered i x ≡ true → s.position (sender x) m < s.position (sender x) x → s.delivered i m ≡ true
  no_overtaking s a i x m d h = by_contradiction (s.delivered i m) (λ e.
      let v = a.invariant in
      let o = count-found n (λ f. ltb (s.position f x) (s.position f m)) (omega (arith, (v.stable i).precedes x m d e)) in
      let f = o.which in
      let l = ltb-true (s.position f x) (s.position f m) o.passes in
      omega (arith, v.logs.causal f x m (omega (arith, v.logs.position_top f m)) h))

  -- so the test by the highest number delivered of a sender is right
  pub passed_over : (s : State) → All k s → (i x m : ℕ) → s.delivered i x ≡ true → sender x ≡ sender m
      → s.position (sender m) m ≤ s.position (sender m) x → s.delivered i m ≡ true
  passed_over s a i x m d e h = elim (dec_lt (s.position (sender m) m) (s.position (sender m) x)) [
    | yes l ↦ no_overtaking s a i x m d (rw e l)
    | no l ↦
        let q : x ≡ m = a.invariant.logs.distinct (sender m) x m (rw e at (delivered_sent s a i x d)) (omega arith) in
        rw (sym q) d
  ]

  -- termination: a quorum runs and has read every log to its end; each has delivered exactly what was sent and is still readable
  module _ (s : State) (a : All k s) (enough : quorum ≤ count n s.running) (e : AllRead k s) (r : ℕ) (process : r < n) (on : s.running r ≡ true) where
    remains : (m : ℕ) → s.delivered r m ≡ true → Remains k s m
    remains m h =
        let v = a.invariant in
        let p = v.logged r m h in
        elim (ℕ_discrete r (sender m)) [
          | yes d ↦ rw (sym d) (omega (arith, v.logs.position_length r m p, v.running_readable r on))
          | no d ↦ let z = a.sourced.reader r m p d in omega (arith, v.read_readable z.who (sender m))
        ]

    running_marked : (y f : ℕ) → s.position r y < top → f < n → s.running f ≡ true → mark k s r y f < top
    running_marked y f p l b =
        let v = a.invariant in
        let q : s.position f y < top = v.heard f r y (omega (arith, v.logs.position_length r y p, v.running_readable r on, e.to_end f r l process b)) in
        let z : s.position f y < s.read r f = omega (arith, v.logs.position_length f y q, v.running_readable f b, e.to_end r f process l on) in
        elim (marked k s r y f) [ known c g ↦ omega arith | unknown c d g ↦ absurd (omega arith) ]

    delivers_all : (m : ℕ) → Remains k s m → s.delivered r m ≡ true
    delivers_all m h = by_contradiction (s.delivered r m) (λ d.
        (a.settled r).none_pending on (e.to_end r r process process on ∙ v.running_readable r on)
        (record { marks = λ y p. omega (arith, count_le n s.running (λ f. ltb (mark k s r y f) top) (λ f l b. lt-ltb (mark k s r y f) top (running_marked y f p.logged l b))) })
        m (record { logged = here; undelivered = d }))
      where
        v : Invariant k s
        v = a.invariant

        sent : s.position (sender m) m < top
        sent = omega (arith, v.readable_length (sender m), v.logs.length_top (sender m))

        here : s.position r m < top
        here = v.heard r (sender m) m (omega (arith, e.to_end r (sender m) process (v.logs.named (sender m) m sent).0 on))

    pub ending : (m : ℕ) → s.delivered r m ≡ true ↔ Remains k s m
    ending m = (remains m, delivers_all m)

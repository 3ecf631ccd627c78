-- What asks and commits in a list say: an accepted ask counts the receiver's acts, and a commit with that count takes the set that was shown,
-- or is refused by 13 where the entry was cut away. Assumes nothing.
use mathlib.Core.Path.{◌≡◌, sym, ap, ◌∙◌}
use mathlib.Core.Logic.{◌⊎◌, inl, inr}
use mathlib.Core.List.{List}
use Prim.Native.Nat.{ℕ, ◌+◌, ◌≤◌, ◌<◌}
use native.Mathlib.Omega.{arith}
use lib.ListN.{length, take}
use borrow.Author.Tests.{lt-ltb, le-ltb}
use Rattle.model.specs.Tables.{scratch_size, Among, at, place}
use Rattle.model.specs.Events.{applied_by}
use Rattle.model.specs.Questions.{unread}
use Rattle.model.specs.Calls.{EventAnswer, Outcome, answering}
use Rattle.turns.specs.Claims.{InRange}
use Rattle.previews.specs.Previews.{acts_of, Preview, preview_of, preview, taking, commit}
use Rattle.model.specs.declared.Pair.{Pair}
use Rattle.model.specs.declared.Table.{Table}
use Rattle.model.proofs.Tested.{tested}
use Rattle.model.proofs.Allowed.{HandoverAllowed, handover_allowed}
use Rattle.previews.proofs.AcceptedCalls.{ask-accepted, commit_refusal, entry_decides, commit-accepted}
use Rattle.consistency.specs.Entries.{asking, observe, committing, serve, Call, observed, served, Step, did}
use Rattle.consistency.specs.Dispatches.{acts_in, CutAway}
use Rattle.consistency.specs.Demand3.{Head, Heads, version, controllers, entries, moment, between, AskedAt, CommittedAt}
use Rattle.consistency.specs.Courses.{Gives, table_at}
use Rattle.consistency.proofs.CallLists.{gives_at, first, steps_until, moment-at, steps-between}
use Rattle.consistency.proofs.Acts.{acts_since, acts_start}
use Rattle.consistency.proofs.AsShown.{Since, shown, cut, since}

module _ (h : Head) (heads : Heads h) (calls : List Call) where
  abbrev n : ℕ
  n = controllers h

  abbrev v : ℕ
  v = version h

  -- ASKS

  -- an accepted ask, at its table
  record Previewed (i : ℕ) (p : Pair) (a : Preview) : Type 0 where
    allowed : HandoverAllowed (table_at h calls i) p.receiver p.owner
    receiver : Among n p.receiver
    is : a ≡ preview_of (table_at h calls i) p

  previewed : (i : ℕ) (p : Pair) (a : Preview) → AskedAt h calls i p a → Previewed i p a
  unfolding Gives observe
  previewed i p a q =
      let t = table_at h calls i in
      let g : a ≡ preview t p (length q.scratch) = gives_at h heads calls i (observed (asking p q.scratch) a) q.after q.there in
      let s = ask-accepted t p (length q.scratch) (rw g at q.accepted) in
      let f = handover_allowed t p.receiver p.owner s.0 in
      record { allowed = f; receiver = rw (moment-at h heads calls i).recorded.size at f.receiver; is = g ∙ s.1 }

  pub acts : (i : ℕ) (p : Pair) (a : Preview) → AskedAt h calls i p a → a.acts ≡ acts_in p.receiver (did v (take i (entries h calls)))
  unfolding preview_of
  acts i p a q =
      let s = previewed i p a q in
      let c = p.receiver in
      let xs = did v (take i (entries h calls)) in
      let shown : a.acts ≡ acts_of (table_at h calls i) c = ap (λ (x : Preview). x.acts) s.is in
      let m = first h heads calls in
      omega (arith, shown, acts_since m xs (table_at h calls i) (steps_until h heads calls i) c s.receiver, acts_start m.recorded c s.receiver)

  -- COMMITS

  answer_at_lem : (j : ℕ) (p : Pair) (k : ℕ) (w : List ℕ) (b : EventAnswer) → CommittedAt h calls j p k w b → b ≡ (commit (table_at h calls j) p k (length w)).answer
  unfolding Gives serve
  answer_at_lem j p k w b q = gives_at h heads calls j (served (committing p k w) b) q.after q.there

  module _ (i j : ℕ) (p : Pair) (a : Preview) (w : List ℕ) (b : EventAnswer) (q : AskedAt h calls i p a) (before : i < j) (c : CommittedAt h calls j p a.acts w b) where
    abbrev t : Table
    t = table_at h calls i

    abbrev u : Table
    u = table_at h calls j

    abbrev xs : List Step
    xs = did v (between h calls i j)

    s : Previewed i p a
    s = previewed i p a q

    counted : acts_of u p.receiver ≡ a.acts + acts_in p.receiver xs
    unfolding preview_of
    counted =
        acts_since (moment-at h heads calls i) xs u (steps-between h heads calls i j (omega arith)) p.receiver s.receiver
        ∙ ap (λ k. k + acts_in p.receiver xs) (sym (ap (λ (x : Preview). x.acts) s.is))

    still : acts_in p.receiver xs ≡ 0 → (at u p.receiver ≡ at t p.receiver) × Since t u xs p.receiver p.owner
    still z = since (moment-at h heads calls i) xs u (steps-between h heads calls i j (omega arith)) p.receiver p.owner s.allowed z

    pub as_shown : b.refusal ≡ 0 → b.names ≡ a.names
    unfolding taking answering applied_by preview_of
    as_shown z =
        let g = answer_at_lem j p a.acts w b c in
        let f = commit-accepted u p (length w) a.acts (rw g at z) in
        elim (still (omega (arith, f.0, counted))).1 [
          | shown _ _ e ↦ ap (λ (x : EventAnswer). x.names) g ∙ (ap (λ (o : Outcome). o.answer.names) f.2 ∙ (e ∙ sym (ap (λ (x : Preview). x.names) s.is)))
          | cut _ l ↦ absurd (omega (arith, l, (handover_allowed u p.receiver p.owner f.1).unread))
        ]

    pub taken : scratch_size ≤ length w → acts_in p.receiver xs ≡ 0
        → let Cut = CutAway xs p.owner ((moment h calls i).place p.receiver p.owner) in
        ((b.refusal ≡ 0) × (Cut → ⊥)) ⊎ ((b.refusal ≡ 13) × Cut)
    unfolding unread
    taken enough z =
        let r = p.receiver in
        let o = p.owner in
        let m = (moment-at h heads calls i).recorded in
        let k = (moment-at h heads calls j).recorded in
        let f = s.allowed in
        let e = still z in
        let owner : Among n o = rw m.size at f.owner in
        let named : InRange u.n p = rw k.size (record { receiver = s.receiver; owner = owner }) in
        let is = ap (λ (x : EventAnswer). x.refusal) (answer_at_lem j p a.acts w b c)
        ∙ (commit_refusal u p (length w) a.acts ∙ entry_decides u p (length w) a.acts (tested u k.formed) named (rw e.0 f.running) (omega (arith, counted, z)) enough) in
        elim e.1 [
          | shown k l _ ↦ inl (rw (lt-ltb (place (at u r) o) (at u o).length l) at is, rw (m.places r o s.receiver owner) k)
          | cut y l ↦ inr (rw (le-ltb (place (at u r) o) (at u o).length l) at is, rw (m.places r o s.receiver owner) y)
        ]

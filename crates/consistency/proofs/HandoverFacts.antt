-- What an accepted handover answers besides its set, and so its line in a file: whether the set finishes a sync of the receiver's own, and
-- the sums over all that the receiver has then applied. Assumes nothing.
use mathlib.Core.Path.{◌≡◌, refl, sym, ap, ap₂, ◌∙◌}
use mathlib.Core.Bool.{Bool, true, false, ◌&&◌, ◌||◌, cond, and_assoc, and_comm, and-false, or-false}
use mathlib.Core.List.{List, [], ◌∷◌, ◌++◌, cons-ne-nil}
use mathlib.Core.Logic.{◌≢◌}
use Prim.Native.Nat.{ℕ, ◌<◌}
use native.Mathlib.Omega.{arith}
use lib.Dec.{eqb, ltb}
use borrow.Author.Tests.{eqb-true, eq-eqb}
use Rattle.lists.proofs.Tests.{both, contradiction, or_left, or_right}
use Rattle.lists.proofs.Below.{count_ext}
use Rattle.model.specs.Tables.{message, no_sums, with_controller, Among, message_in, messages_of}
use Rattle.model.specs.Delivery.{Slots, has as member}
use Rattle.model.specs.Events.{subject, with_sent, next, applied_by, controller_of, resulting, panel_of, finishes}
use Rattle.model.specs.Records.{after_record, decode}
use Rattle.model.specs.Calls.{EventAnswer, answering, accepted}
use Rattle.turns.specs.Dispatcher.{handover}
use Rattle.model.specs.declared.Name.{Name}
use Rattle.model.specs.declared.Panel.{Panel}
use Rattle.model.specs.declared.Table.{Table}
use Rattle.model.specs.declared.Event.{Event}
use Rattle.model.specs.declared.Event.TheVariants.{Handover}
use Rattle.model.specs.declared.Command.{Command}
use Rattle.model.specs.declared.Command.TheVariants.{Act, Read}
use Rattle.model.specs.Facts.{WellFormed}
use Rattle.model.proofs.Allowed.{handover_allowed}
use Rattle.model.proofs.Handovers.{set_at}
use Rattle.consistency.specs.Entries.{has, Line, Entry, answered, observed, served, handed, listed, Said, carried, steps_of, steps}
use Rattle.consistency.specs.Ledger.{Sent, Ledger, applied, showing, finishing}
use Rattle.consistency.specs.Demand3.{Finishes}
use Rattle.consistency.specs.Courses.{Course, told, Gives}
use Rattle.consistency.proofs.Names.{any_tabulate}
use Rattle.consistency.proofs.SlotNames.{name_at, has-names}
use Rattle.consistency.proofs.Recorded.{sent_at, Recorded}
use Rattle.consistency.proofs.RecordedNext.{Legal}
use Rattle.consistency.proofs.Sums.{panel_applied}
use Rattle.consistency.proofs.Reader.{saying_sums}
use Rattle.consistency.proofs.Moments.{stepped, Takes, call_accepted, entry-taken}

-- A SET THAT HOLDS A SYNC OF c

-- the ledger and the table say the same of a set, by its names and by its slots
finishing_slots : {n : ℕ} {t : Table} {l : Ledger} → Recorded n t l → (S : Slots) (ms : List Name)
    → ((j : ℕ) → j < t.count → has (name_at t j) ms ≡ member S j) → (c : ℕ) → finishes (messages_of t) S c ≡ finishing l.sent ms c
unfolding finishes finishing
finishing_slots {t = t} k S ms f c =
    ap (ltb 0) (count_ext t.count _ _ (λ j h. rw (f j h) (last (member S j) (eqb (message t j).payload.kind 2) (eqb (message t j).sender c))))
    ∙ sym (any_tabulate (λ xs. finishing xs ms c) (λ x. finishing (x ∷ []) ms c) refl (λ _ _. rw or-false) (sent_at t) t.count)
    ∙ ap (λ (xs : List Sent). finishing xs ms c) (sym k.sent)
  where
    last : (a b d : Bool) → (a && (b && d)) ≡ (b && (d && a) || false)
    last a b d = and_comm a (b && d) ∙ and_assoc b d a ∙ sym (or-false _)

-- a set holds one that was sent
pub finishing_own : (xs : List Sent) (x : Sent) (ys : List Sent) (ms : List Name) → x.said.kind ≡ 2 → has x.name ms ≡ true
    → finishing (xs ++ (x ∷ ys)) ms x.name.sender ≡ true
unfolding finishing
finishing_own [] x ys ms k e = or_left _ (both (eq-eqb x.said.kind 2 k) (both (eq-eqb x.name.sender x.name.sender refl) e))
finishing_own (y ∷ xs) x ys ms k e = or_right (eqb y.said.kind 2 && (eqb y.name.sender x.name.sender && has y.name ms)) (finishing_own xs x ys ms k e)

-- the empty set holds none
finishing-none : (xs : List Sent) (c : ℕ) → finishing xs [] c ≡ false
unfolding finishing has
finishing-none [] c = refl
finishing-none (x ∷ xs) c = simp and-false (finishing-none xs c)

-- WHAT AN ENTRY STANDS FOR: one step, so an accepted record of that event

carries : (a : Command) (p q : Said) (e : Event) (ms ks : List Name) → steps_of p a ms ≡ carried q e ks ∷ [] → a ≡ Act e
unfolding steps_of
carries (Act f) p q e ms ks is = cc
carries (Read c) p q e ms ks is = absurd (cons-ne-nil _ [] (sym is))

call_carries : (k v : ℕ) (s : List ℕ) (p q : Said) (e : Event) (ms ks : List Name)
    → cond (eqb k 0) (steps_of p (decode v s) ms) [] ≡ carried q e ks ∷ [] → (k ≡ 0) × (decode v s ≡ Act e)
call_carries k v s p q e ms ks = go (eqb k 0) refl
  where
    go : (b : Bool) → eqb k 0 ≡ b → cond b (steps_of p (decode v s) ms) [] ≡ carried q e ks ∷ [] → (k ≡ 0) × (decode v s ≡ Act e)
    go true z is = (eqb-true k 0 z, carries (decode v s) p q e ms ks is)
    go false z is = absurd (cons-ne-nil _ [] (sym is))

-- A HANDOVER, from table t to the one after it

module _ {n : ℕ} {t : Table} (formed : WellFormed t) (r o : ℕ) (q : Said) (ms : List Name) (legal : Legal t q (Handover r o) ms)
    {l : Ledger} (k : Recorded n (next t (Handover r o)) l) where
  receiver : Among n r
  unfolding next with_sent with_controller
  receiver = omega (arith, (handover_allowed t r o legal.asked).receiver, k.size)

  sums-after : (panel_of (next t (Handover r o)) r).sums ≡ (showing l.sent (applied l r)).sums
  sums-after = ap (λ (p : Panel). p.sums) (panel_applied k r receiver)

  finished : finishes (messages_of t) (set_at t r o) r ≡ finishing l.sent ms r
  unfolding next with_sent with_controller message_in finishes applied_by
  finished = finishing_slots k (set_at t r o) ms (λ j h. rw legal.set (has-names t formed (set_at t r o) j h)) r

  handover_answers : (rest : List ℕ) (a : EventAnswer) → a ≡ answering t (Act (Handover r o)) rest
      → (a.finished ≡ finishing l.sent ms r) × (a.sums ≡ cond (finishing l.sent ms r) (showing l.sent (applied l r)).sums no_sums)
  unfolding answering applied_by subject
  handover_answers rest a e = rw e (finished, ap₂ (λ f z. cond f z no_sums) finished sums-after)

  line_says : (s : List ℕ) (x : Line) → Gives t (listed s x) → decode t.version s ≡ Act (Handover r o) → ms ≢ []
      → x.sums ≡ (showing l.sent (applied l r)).sums
  unfolding Gives accepted answering resulting controller_of subject applied_by
  line_says s x g d some = rw (g.1, d, ← legal.set) (saying_sums _ ms some ∙ sums-after)

-- AN ENTRY that carries out a handover, at table t

module _ {n : ℕ} {t : Table} (formed : WellFormed t) (r o : ℕ) (q : Said) (ms : List Name) {l : Ledger} where
  handover-taken : (e : Entry) → Gives t e → steps t.version e ≡ carried q (Handover r o) ms ∷ [] → Recorded n (told t e) l
      → Legal t q (Handover r o) ms × Recorded n (next t (Handover r o)) l
  unfolding Course stepped Takes
  handover-taken e g is k = let c = rw is at (entry-taken t e g) in (c.0, rw c.1 k)

  -- its line in a file gives the sums, where it has one
  pub line-sums : (s : List ℕ) (x : Line) → Gives t (listed s x) → steps t.version (listed s x) ≡ carried q (Handover r o) ms ∷ []
      → Recorded n (told t (listed s x)) l → ms ≢ [] → x.sums ≡ (showing l.sent (applied l r)).sums
  unfolding steps
  line-sums s x g is k =
      let h = handover-taken (listed s x) g is k in
      line_says formed r o q ms h.0 h.1 s x g (carries (decode t.version s) _ q (Handover r o) _ ms is)

  pub entry-finishes : (e : Entry) → Gives t e → steps t.version e ≡ carried q (Handover r o) ms ∷ [] → Recorded n (told t e) l
      → Finishes e (finishing l.sent ms r) (showing l.sent (applied l r)).sums
  unfolding Finishes Gives steps accepted
  entry-finishes (answered s w a) g is k =
      let h = handover-taken (answered s w a) g is k in
      let c = call_carries a.refusal t.version s _ q (Handover r o) _ ms is in
      handover_answers formed r o q ms h.0 h.1 (after_record s) a ((call_accepted t s w a g c.0).1 ∙ ap (λ x. answering t x (after_record s)) c.1)
  entry-finishes (observed x a) g is k = absurd (cons-ne-nil _ [] (sym is))
  entry-finishes (served s a) g is k = absurd (cons-ne-nil _ [] (sym is))
  entry-finishes (handed x p a) g is k =
      let h = handover-taken (handed x p a) g is k in
      let e : handover p ≡ Handover r o = cc in
      handover_answers formed r o q ms h.0 h.1 [] a (rw e at g.1)
  entry-finishes (listed s x) g is k = λ f. line-sums s x g is k (λ none. contradiction f (rw none (finishing-none l.sent r)))

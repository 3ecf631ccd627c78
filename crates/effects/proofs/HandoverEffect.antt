-- A handover: the set that the delivery rule answers is the definition's, and what the code stores is its answer. Assumes nothing.
use mathlib.Core.Path.{◌≡◌, refl, sym, ap, ◌∙◌}
use mathlib.Core.Bool.{Bool, true, false, ◌&&◌, cond}
use mathlib.Core.List.{List}
use Prim.Native.Nat.{ℕ, zero, suc, ◌≤◌, ◌<◌}
use native.Mathlib.Omega.{arith}
use native.Mathlib.Decide.{ℕ_discrete}
use lib.ListN.{length}
use lib.Seq.{take_all}
use lib.Dec.{eqb}
use borrow.Author.Tests.{le-leb}
use Rattle.lists.proofs.Tests.{cond_true, refuted, contradiction}
use Rattle.lists.proofs.Clipped.{any_none}
use Rattle.model.specs.Tables.{Messages, sync_kind, scratch_size, no_sums, message_in, message, messages_of}
use Rattle.model.specs.Delivery.{Slots, has}
use Rattle.model.specs.Events.{received, handover_set, deliver, subject, after, with_sent, next, applied_by, sums, name_of, insert, names_below, names_of, finishes}
use Rattle.model.specs.Calls.{cleared, answer_of}
use Rattle.model.specs.Sized.{SizedController}
use Rattle.model.specs.declared.Message.{Message}
use Rattle.model.specs.declared.Sums.{Sums}
use Rattle.model.specs.declared.Controller.{Controller}
use Rattle.model.specs.declared.Table.{Table}
use Rattle.model.specs.declared.Answer.{Answer}
use Rattle.model.specs.declared.Event.TheVariants.{Handover}
use Rattle.model.proofs.Lengths.{length-insert}
use Rattle.model.proofs.Handovers.{received_at, set_at}
use Rattle.delivery.specs.Apply.{apply_answer, apply_scratch, Applied}
use Rattle.naming.specs.declared.Names.{Names}
use Rattle.naming.specs.SortedNames.{padded}
use Rattle.effects.specs.Conditions.{Readable, Deliverable}
use Rattle.effects.specs.Parties.{owner_of, Allowed}
use Rattle.effects.specs.Effects.{no_set, effect_of, Effected}
use Rattle.effects.proofs.Room.{readable, deliverable, receiver_within}
use Rattle.effects.proofs.StoredEffect.{sums-within}
use Rattle.effects.proofs.SetApplied.{deliver-none}

-- THE NAMES

-- a set of which no message is named has none of the run
unnamed : (k : ℕ) (M : List Message) (S : Slots) → length (names_below k M S) ≡ 0 → (s : ℕ) → s < k → has S s ≡ false
unfolding names_below
unnamed zero M S e s h = absurd (omega arith)
unnamed (suc k) M S e s h = go (has S k) refl e (λ n l. unnamed k M S n s l) (ℕ_discrete s k)
  where
    go : (b : Bool) → has S k ≡ b → length (cond b (insert (name_of (message_in M k)) (names_below k M S)) (names_below k M S)) ≡ 0
        → (length (names_below k M S) ≡ 0 → s < k → has S s ≡ false) → Dec (s ≡ k) → has S s ≡ false
    go true q n f d = absurd (omega (arith, length-insert (name_of (message_in M k)) (names_below k M S)))
    go false q n f (yes p) = rw p q
    go false q n f (no p) = f n (omega (arith, p))

none_in : (M : Messages) (S : Slots) → Deliverable M S → length (names_of M S) ≡ 0 → (s : ℕ) → has S s ≡ false
unfolding names_of
none_in M S run e s = refuted (has S s) (λ m. contradiction m (unnamed M.count M.slots S e s (run.of_run s m)))

none_counted : (M : Messages) (S : Slots) (a : Names) → a ≡ padded (names_of M S) → a.size ≡ 0 → length (names_of M S) ≡ 0
unfolding padded
none_counted M S a e n = sym (ap (λ (b : Names). b.size) e) ∙ n

-- THE HANDOVER of a table t with n controllers and the messages M: c is the receiver after it has read, S the set that the delivery rule
-- answers, and a the names of S

module _ (t : Table) (n : ℕ) (en : t.n ≡ n) (M : Messages) (em : messages_of t ≡ M) (x y : Controller) (r o : ℕ) (q : Allowed t (Handover r o) x y)
    (c : Controller) (z : SizedController c) (fc : Readable M.slots x y o → c ≡ received M x y o) (w v : List ℕ) (h : scratch_size ≤ length w)
    (S : Slots) (fs : Applied n c.pending w S v) (a : Names) (ea : a ≡ padded (names_of M S)) where
  entry_read : c ≡ received_at t r o
  unfolding subject owner_of
  entry_read = (rw (← em, q.subject_is, q.owner_is) at fc) (readable t r o q.accepted)

  set_is : S ≡ set_at t r o
  unfolding apply_answer handover_set
  set_is = fs.set ∙ cond_true _ _ (le-leb scratch_size (length w) h) ∙ rw (← en, entry_read) refl

  clear : v ≡ cleared w
  unfolding apply_scratch
  clear = fs.scratch ∙ cond_true _ _ (le-leb scratch_size (length w) h)

  of_run : Deliverable (messages_of t) S
  of_run = rw set_is (deliverable t r o q.accepted)

  pub handed_over_lem : (f : Bool) → f ≡ finishes M S r → (u : Controller) → (SizedController c → Deliverable M S → u ≡ deliver M c S)
      → (k : Sums) → k ≡ cond f (sums M u.applied) no_sums → (g : ℕ) → g ≡ cond f 1 0
      → Effected t (Handover r o) w (record { answer = record { refusal = 0; finished = g; sums = k; size = a.size; names = a.names }; controller = u }) v
  unfolding effect_of answer_of next subject after with_sent applied_by padded
  handed_over_lem f ef u eu k ek g eg =
      let u-is = (rw (← em) at eu) z of_run in
      record {
        effect = rw (eg, rw (← em) at ek, sums-within t r u (receiver_within t r o q.accepted), rw (← em) at ef, rw (← em) at ea, u-is, entry_read, set_is) refl;
        clear = clear;
      }

  -- where nothing is named nothing is applied
  pub handed_none : a.size ≡ 0 → (b : Answer) → b ≡ no_set 0 → Effected t (Handover r o) w (record { answer = b; controller = c }) v
  unfolding effect_of no_set applied_by subject after finishes
  handed_none k b eb =
      let e = none_counted (messages_of t) S a (rw (← em) at ea) k in
      let none = none_in (messages_of t) S of_run e in
      record {
        effect = rw (eb, ← set_is, sym (take_all 0 (names_of (messages_of t) S) (omega (arith, e))), ← any_none t.count (λ s. has S s && (eqb (message t s).payload.kind sync_kind && eqb (message t s).sender r)) (λ s l. rw (none s) refl))
            (ap (λ (d : Controller). record { answer = no_set 0; controller = d }) (deliver-none (messages_of t) c S z.highest z.pending z.applied of_run.fits none ∙ rw entry_read refl));
        clear = clear;
      }

-- What an event keeps: a process that knows the same shows the same controller; what a log shows that gets one message more; and
-- when a legal event of the abstract system follows an event of the table. Assumes nothing.
use mathlib.Core.Path.{◌≡◌, refl, sym, ap, ◌∙◌}
use mathlib.Core.Logic.{◌≢◌}
use Prim.Native.Nat.{ℕ, suc, ◌+◌, ◌-◌, ◌≤◌, ◌<◌}
use native.Mathlib.Omega.{arith}
use Rattle.model.specs.Tables.{capacity, at, message, slot_at, with_controller, with_entry, message_in}
use Rattle.model.specs.Events.{subject, after, with_sent, next}
use Rattle.model.specs.Sized.{SizedController}
use Rattle.model.specs.Questions.{first_no, event_questions}
use Rattle.model.specs.declared.Controller.{Controller}
use Rattle.model.specs.declared.Table.{Table}
use Rattle.model.specs.declared.Event.{Event}
use Rattle.model.proofs.Allowed.{subject_allowed}
use Rattle.invariant.proofs.Stores.{seated}
use Rattle.invariant.proofs.Sizes.{next_sized, next_case, next_n}
use Rattle.invariant.proofs.Kept.{next_well_formed}
use Rattle.invariant.proofs.Logs.{Entered, last, earlier, entered}
use Rattle.broadcast.specs.State.{State, append}
use Rattle.broadcast.specs.Events.{Event as Step}
use Rattle.broadcast.proofs.Updates.{update_same}
use Rattle.broadcast.proofs.Positions.{Entry, appended, unchanged, position_after, position_kept, grow_case}
use Rattle.broadcast.proofs.Invariant.{Invariant}
use Rattle.broadcast.proofs.Settled.{SameView, append_view}
use Rattle.broadcast.proofs.Slots.{Slot}
use Rattle.broadcast.proofs.Reachable.{event_kept}
use Rattle.consistency.proofs.Bridge.{top, system, code_at, ShowsBy, Shows, Related}

module _ (n slots : ℕ) (name : ℕ → ℕ) (s u : State) (i : ℕ) (c : Controller) where
  pub same_shows : SameView (system n) s u i → u.readable i ≡ s.readable i → ((o : ℕ) → u.read i o ≡ s.read i o) → u.running i ≡ s.running i
      → ShowsBy n slots name s i c → ShowsBy n slots name u i c
  same_shows e readable read running h = record {
    length = readable ∙ h.length;
    places = λ o l. read o ∙ h.places o l;
    running = running ∙ h.running;
    log = λ p l. e.position _ ∙ h.log p l;
    applied_is = λ j l. e.delivered (name j) ∙ h.applied_is j l;
    marks = record { stored = λ j l d f b. h.marks.stored j l (sym (e.delivered (name j)) ∙ d) f b ∙ ap suc (sym (e.mark_same (name j) f)) };
    absent_marks = h.absent_marks;
  }

-- A LOG GETS ONE MESSAGE MORE

module _ (n : ℕ) (s : State) (c m : ℕ) (new : s.position c m ≡ top) where
  pub append_readable : (append s c m).readable c ≡ suc (s.readable c)
  unfolding append
  append_readable = update_same s.readable c (suc (s.readable c))

  pub append_position : (append s c m).position c m ≡ s.length c
  append_position = elim (position_after (system n) s c m new c m) [ appended _ _ _ e ↦ e | unchanged d _ ↦ absurd (d refl refl) ]

  -- slot j, which holds m, ends the log of controller x
  pub append_log : (x : Controller) → SizedController x → x.length < capacity → s.length c ≡ x.length → (name : ℕ → ℕ) (j : ℕ) → name j ≡ m
      → ((p : ℕ) → p < x.length → s.position c (name (slot_at x p)) ≡ p)
      → (p : ℕ) → p < x.length + 1 → (append s c m).position c (name (slot_at (with_entry x j) p)) ≡ p
  append_log x z room l name j is log p h = go (entered x j z room p h)
    where
      go : Entered x j p → (append s c m).position c (name (slot_at (with_entry x j) p)) ≡ p
      go (last b e) = rw (e, is) (append_position ∙ l ∙ sym b)
      go (earlier b e) = rw e (position_kept (system n) s c m new c (name (slot_at x p)) (omega (arith, log p b)) ∙ log p b)

module _ (n : ℕ) (s : State) (v : Invariant (system n) s) (c m : ℕ) (w : Entry (system n) s c m) where
  pub append_others : (slots : ℕ) (name : ℕ → ℕ) (i : ℕ) (x : Controller) → i ≢ c → ShowsBy n slots name s i x → ShowsBy n slots name (append s c m) i x
  unfolding append
  append_others slots name i x d h =
      same_shows n slots name s (append s c m) i x (append_view (system n) s v c m w i d)
      (grow_case (system n) s c m (λ a _. a ≡ s.readable i) i (λ e. absurd (d e)) (λ _. refl)) (λ o. refl) refl h

  pub append_slot_of : (slots : ℕ) (name : ℕ → ℕ) → Slot slots name m → ((i y : ℕ) → s.position i y < top → Slot slots name y)
      → (i y : ℕ) → (append s c m).position i y < top → Slot slots name y
  append_slot_of slots name new old i y l = elim (position_after (system n) s c m w.new i y) [
    | appended _ e _ _ ↦ rw e new
    | unchanged _ e ↦ old i y (omega arith)
  ]

  -- a message's place in its sender's log
  pub append_numbered : (f y k : ℕ) → k ≤ capacity → suc (s.position f y) ≡ k → suc ((append s c m).position f y) ≡ k
  append_numbered f y k l e = omega (arith, position_kept (system n) s c m w.new f y (omega arith))

-- A LEGAL EVENT of the abstract system whose state shows the table after an event

pub record Followed (n : ℕ) (t : Table) (s : State) : Type 0 where
  pub after : State
  pub legal : Step (system n) s after
  pub related : Related n t after

-- an event that no question refuses, of process r
module _ {n : ℕ} {t : Table} {s : State} (g : Related n t s) (e : Event) (q : first_no (event_questions t e) ≡ 0) (r : ℕ) (is : subject e ≡ suc r) where
  pub followed : (u : State) → Step (system n) s u
      → Shows n (with_sent t e) u r (after t e)
      → ((i : ℕ) → i < n → i ≢ r → Shows n (with_sent t e) u i (at t (suc i)))
      → ((i m : ℕ) → u.position i m < top → Slot (with_sent t e).count (code_at (with_sent t e)) m)
      → ((j : ℕ) → j < (with_sent t e).count → suc (u.position ((message (with_sent t e) j).sender - 1) (code_at (with_sent t e) j)) ≡ (message (with_sent t e) j).number.0)
      → Followed n (next t e) s
  unfolding next with_controller message_in
  followed u legal new others slot_of numbered = record {
    after = u;
    legal = legal;
    related = record {
      sized = next_sized t e g.sized;
      formed = next_well_formed t e g.sized g.formed q;
      size = next_n t e ∙ g.size;
      all = (event_kept (system n) s u g.all legal).all;
      controllers = λ i l.
          next_case t e g.sized (seated g.formed.few (subject_allowed t e q)) (Shows n (with_sent t e) u i) (suc i) (omega (arith, g.size, g.formed.few))
          (λ p. let w : i ≡ r = omega arith in rw w new) (λ d. others i l (omega arith));
      slot_of = slot_of;
      numbered = numbered;
    };
  }

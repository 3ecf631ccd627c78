-- The ledger and the table say the same after an accepted stop. Assumes nothing.
use mathlib.Core.Path.{◌≡◌, refl, sym, ap, ap₂, ◌∙◌}
use mathlib.Core.Bool.{Bool, true, false, not, ◌&&◌, ◌||◌, false≢true}
use mathlib.Core.Logic.{inl, inr}
use mathlib.Core.List.{List, ◌++◌}
use Prim.Native.Nat.{ℕ, ◌≤◌, ◌<◌}
use native.Mathlib.Omega.{arith}
use lib.ListN.{take, drop, take-append-drop}
use lib.Dec.{eqb}
use borrow.Author.Tests.{eq-eqb, ne_eqb}
use Rattle.lists.proofs.Tests.{and_left, or_cases, or_right}
use Rattle.model.specs.Tables.{yes?, at, place, applied, with_controller, with_stop, message_in}
use Rattle.model.specs.Events.{subject, after, with_sent, next}
use Rattle.model.specs.Questions.{first_no, event_questions}
use Rattle.model.specs.Facts.{in_log, GoodController}
use Rattle.model.specs.declared.Name.{Name}
use Rattle.model.specs.declared.Controller.{Controller}
use Rattle.model.specs.declared.Table.{Table}
use Rattle.model.specs.declared.Event.TheVariants.{Stop}
use Rattle.model.proofs.Allowed.{StopAllowed, stop_allowed}
use Rattle.invariant.proofs.Logs.{in_log_at, in_log_of}
use Rattle.invariant.proofs.Sizes.{next_sized}
use Rattle.invariant.proofs.Kept.{next_well_formed}
use Rattle.consistency.specs.Entries.{has, own_of, Said, carried}
use Rattle.consistency.specs.Ledger.{Ledger, moved}
use Rattle.consistency.proofs.Names.{has-append, has_own, has-drop}
use Rattle.consistency.proofs.SlotNames.{name_at, log_names, log_stopped, has_log, distinct_log}
use Rattle.consistency.proofs.Recorded.{sender_at, Slot, Recorded, log_slot, slot_kept}
use Rattle.consistency.proofs.RecordedChanges.{at_case, at_kept, put-at}

-- a log cut names less
stopped_in_log : (x : Controller) (k j : ℕ) → k ≤ x.length → in_log (with_stop x k) j ≡ true → in_log x j ≡ true
stopped_in_log x k j h e =
    let f = in_log_at (with_stop x k) j e in
    in_log_of x j (record { index = f.index; below = omega (arith, f.below); names = f.names })

-- cut off before, or with this cut
cut_now : (a b : Bool) → (b ≡ true → a ≡ true) → (not a || ((a && not b) && true)) ≡ not b
cut_now true true f = refl
cut_now true false f = refl
cut_now false true f = absurd (false≢true (f refl))
cut_now false false f = refl

not_now : (a b : Bool) → (a || (b && false)) ≡ a
not_now true b = refl
not_now false true = refl
not_now false false = refl

module _ {t : Table} {l : Ledger} (r : Recorded t.n t l) (c k : ℕ) (q : first_no (event_questions t (Stop c k)) ≡ 0) (s : Said) (ms : List Name) where
  a : StopAllowed t c k
  a = stop_allowed t c k q

  good : GoodController t c (at t c)
  good = r.formed.controllers c a.controller

  log_cut : take k (l.log c) ≡ log_names t (with_stop (at t c) k)
  log_cut = ap (take k) (r.logs c a.controller) ∙ sym (log_stopped t (at t c) k a.within)

  -- of the entries that went, slot j
  has-cut : (j : ℕ) → j < t.count → has (name_at t j) (drop k (l.log c)) ≡ (in_log (at t c) j && not (in_log (with_stop (at t c) k) j))
  has-cut j h =
      ap (λ (xs : List Name). has (name_at t j) (drop k xs)) (r.logs c a.controller)
      ∙ has-drop (name_at t j) k (log_names t (at t c)) (distinct_log t r.formed c (at t c) good)
      ∙ ap₂ (λ x y. x && not y) (has_log t r.formed (at t c) good.log_run j h)
      (ap (has (name_at t j)) (sym (log_stopped t (at t c) k a.within))
      ∙ has_log t r.formed (with_stop (at t c) k) (λ i b. good.log_run i (omega (arith, a.within))) j h)

  cut_slot : (m : Name) → has m (l.cut ++ own_of c (drop k (l.log c))) ≡ true → Slot t m
  cut_slot m e = elim (or_cases (has m l.cut) _ (sym (has-append m l.cut _) ∙ e)) [
    | inl q ↦ r.cut_sent m q
    | inr q ↦
        let dropped = and_left (has m (drop k (l.log c))) _ (sym (has_own m c _) ∙ q) in
        log_slot t c (at t c) good m
        (ap (has m) (sym (take-append-drop k (log_names t (at t c))))
        ∙ has-append m (take k (log_names t (at t c))) _
        ∙ or_right (has m (take k (log_names t (at t c)))) (ap (λ (xs : List Name). has m (drop k xs)) (sym (r.logs c a.controller)) ∙ dropped))
  ]

  cut_of : (j : ℕ) → j < t.count → has (name_at t j) (l.cut ++ own_of c (drop k (l.log c))) ≡ not (in_log (at (next t (Stop c k)) (sender_at t j)) j)
  unfolding subject after
  cut_of j h =
      has-append (name_at t j) l.cut _
      ∙ ap₂ ◌||◌ (r.cut j h) (has_own (name_at t j) c _ ∙ ap (λ b. b && eqb (sender_at t j) c) (has-cut j h))
      ∙ at_case r (Stop c k) q (r.formed.senders j h)
      (λ y. (not (in_log (at t (sender_at t j)) j) || ((in_log (at t c) j && not (in_log (with_stop (at t c) k) j)) && eqb (sender_at t j) c)) ≡ not (in_log y j))
      (λ e. rw (e, eq-eqb c c refl) (cut_now (in_log (at t c) j) (in_log (with_stop (at t c) k) j) (stopped_in_log (at t c) k j a.within)))
      (λ d. rw (ne_eqb (sender_at t j) c d) (not_now (not (in_log (at t (sender_at t j)) j)) (in_log (at t c) j && not (in_log (with_stop (at t c) k) j))))

  pub stop_recorded : Recorded t.n (next t (Stop c k)) (moved l (carried s (Stop c k) ms))
  unfolding next subject after with_sent moved with_controller message_in log_names
  stop_recorded = record {
    sized = next_sized t (Stop c k) r.sized;
    formed = next_well_formed t (Stop c k) r.sized r.formed q;
    size = refl;
    logs = λ d h. put-at r (Stop c k) q h (λ xs y. xs ≡ log_names t y) l.log _ log_cut (r.logs d h);
    places = λ d o h ho. r.places d o h ho ∙ sym (at_kept r (Stop c k) q h (λ y. place y o) refl);
    runs = λ d h. put-at r (Stop c k) q h (λ b y. b ≡ yes? y.running) l.runs _ refl (r.runs d h);
    sent = r.sent;
    cut = cut_of;
    cut_sent = λ m e. slot_kept t (Stop c k) m (cut_slot m e);
    applies = λ d h j b. r.applies d h j b ∙ sym (at_kept r (Stop c k) q h (λ y. applied y j) refl);
    applied_sent = λ d m e. slot_kept t (Stop c k) m (r.applied_sent d m e);
    once = r.once;
    unnamed = r.unnamed;
  }

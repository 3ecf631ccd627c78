-- Demand 3: the claim holds of every list, whichever head it has and whatever the calls. Assumes nothing.
use mathlib.Core.Path.{◌≡◌, sym, ap, ◌∙◌}
use mathlib.Core.Logic.{◌≢◌, inl, inr, ⊎_swap}
use mathlib.Core.Bool.{true}
use mathlib.Core.List.{List, [], ◌∷◌, ◌++◌, foldl, append-nil, append_assoc, cons-ne-nil}
use Prim.Native.Nat.{ℕ, suc}
use native.Mathlib.Omega.{arith}
use lib.ListN.{length, take, drop}
use Rattle.model.specs.Tables.{at, Among, messages_of}
use Rattle.model.specs.Events.{weigh}
use Rattle.model.specs.WellFormed.{well_formed}
use Rattle.model.specs.Questions.{first_no, step_questions}
use Rattle.model.specs.Calls.{EventAnswer, Outcome, event, look}
use Rattle.model.specs.declared.Payload.{Payload}
use Rattle.model.specs.declared.Table.{Table}
use Rattle.model.proofs.Tested.{tested}
use Rattle.model.proofs.Steps.{step-first_no, event_is_step}
use Rattle.invariant.proofs.Refusals.{step_refusals}
use Rattle.consistency.specs.Entries.{observe, panel_look, Call, single_event, observing, Entry, answered, listed, entries_of, left, transcript, did}
use Rattle.consistency.specs.Ledger.{Sent, applied, ledger, remaining, weights, showing}
use Rattle.consistency.specs.Demand3.{Head, Heads, version, controllers, opening, given, entries, moment, IsRunning, MajorityRuns, ReadOut, LookShows, read_record, Consistent}
use Rattle.consistency.specs.Courses.{table_at}
use Rattle.consistency.proofs.Recorded.{distinct-sent}
use Rattle.consistency.proofs.LedgerRegisters.{stamps_differ}
use Rattle.consistency.proofs.Sums.{of_payload, weights-weigh, same_members_same-weights, distinct-remaining}
use Rattle.consistency.proofs.MomentFacts.{Comparable, comparable, InOrder, OneValue, snapshots, values, in_order, look_shows, read_gives, read_rests, moment_ending, ending_shows, ending_gives}
use Rattle.consistency.proofs.HandoverFacts.{line-sums}
use Rattle.consistency.proofs.CallLists.{version-at, gives_at, event-at, look_at, moment-at, moment_end, moment_past, any_two, sent}
use Rattle.consistency.proofs.DispatcherFacts.{fair, bounded, accepts, one_none, none_reads}
use Rattle.consistency.proofs.PreviewFacts.{acts, as_shown, taken}
use Rattle.consistency.proofs.NeverStale.{applied_then, syncs, never_stale, included, answered_so, bears}

-- one call more
extended : (t : Table) (cs : List Call) (x : Call) → transcript t (cs ++ (x ∷ [])) ≡ transcript t cs ++ entries_of (foldl left t cs) x
unfolding transcript
extended t [] x = append-nil (entries_of t x)
extended t (c ∷ cs) x = ap (λ es. entries_of t c ++ es) (extended (left t c) cs x) ∙ sym (append_assoc (entries_of t c) (transcript (left t c) cs) _)

list_extended : (h : Head) (calls : List Call) (x : Call) → entries h (calls ++ (x ∷ [])) ≡ entries h calls ++ entries_of (foldl left (given h) calls) x
unfolding entries
list_extended h calls x = ap (λ es. opening h ++ es) (extended (given h) calls x) ∙ sym (append_assoc (opening h) (transcript (given h) calls) _)

-- a look at the ending
ending_look : (h : Head) → Heads h → (now : List Call) (r : ℕ)
    → let l = ledger (did (version h) (entries h now)) in
    ReadOut (controllers h) l → IsRunning (controllers h) l r → LookShows h now r (showing l.sent (remaining l))
unfolding entries_of observe
ending_look h heads now r e on =
    let s = ending_shows (moment_end h heads now) e r on in
    record { answer = look (foldl left (given h) now) r; last = list_extended h now (observing (panel_look r)); accepted = s.0; shown = s.1 }

-- DEMAND 3

pub demand_3 : (h : Head) → Heads h → (calls : List Call) → Consistent h calls
unfolding entries_of observe
demand_3 h heads calls = record {
  contains = any_two h heads calls Comparable (λ t u l k. comparable) (λ l k f c d. ⊎_swap (f d c));
  sent = sent h heads calls;
  names = λ i. distinct-sent (moment-at h heads calls i).recorded;
  once = λ i c. (moment-at h heads calls i).recorded.once c;
  looks = λ i c a after q. look_shows (moment-at h heads calls i) c a (look_at h heads calls i c a after q);
  reads = λ i s w a after q. read_gives (moment-at h heads calls i) s w a (event-at h heads calls i s w a after q);
  reads_own = λ i s w a after q. read_rests (moment-at h heads calls i) s w a (event-at h heads calls i s w a after q);
  syncs = syncs h heads calls;
  lines = λ i r o q x ms s z after p is.
      let m = moment-at h heads calls i in
      line-sums m.related.formed r o q (x ∷ ms) s z (gives_at h heads calls i (listed s z) after p) (rw (version-at h heads calls i) is)
      (moment_past h heads calls i (listed s z) after p).recorded (cons-ne-nil x ms);
  in_order = λ i. in_order (moment-at h heads calls i);
  stamps = λ i. stamps_differ (moment-at h heads calls i).recorded;
  snapshots = any_two h heads calls InOrder (λ t u l k. snapshots) (λ l k f c d. ⊎_swap (f d c));
  values = any_two h heads calls OneValue (λ t u l k. values) (λ l k f c d r e. sym (f d c r (sym e)));
  includes = λ i j k later m s f l b g q. included h heads calls j s b later f l g q;
  answers = λ j k s b z f. answered_so h heads calls j s b k z f;
  rests = λ i j k x y f l b g. never_stale h heads calls j y b (suc i) (suc k) x.sender y.name.sender l (applied_then h heads calls g);
  found = λ a i j k later r x s e w f l b g q. bears h heads calls a x e later s.name.sender r w (included h heads calls j s b later f l g q);
  ending = λ i r e on. moment_ending (moment-at h heads calls i) e r on;
  ending_look = λ i. ending_look h heads (take i calls);
  ending_read = λ i r w e on k.
      let now = take i calls in
      let s = ending_gives (moment_end h heads now) e r on w k in
      record {
        answer = (event (foldl left (given h) now) (read_record r) (length w)).answer;
        last = list_extended h now (single_event (read_record r) w);
        accepted = s.0;
        gives = s.1;
      };
  fair = fair h heads calls;
  bounded = bounded h heads calls;
  accepts = accepts h heads calls;
  one_none = one_none h heads calls;
  none_ends = λ i s.
      let now = take i calls in
      let l = ledger (did (version h) (entries h now)) in
      let read = none_reads h heads now s in
      let out : MajorityRuns (controllers h) l → ReadOut (controllers h) l = λ most. record { majority = most; to_end = read } in
      record {
        read = read;
        applies = λ most r on. moment_ending (moment_end h heads now) (out most) r on;
        shows = λ most r on. ending_look h heads now r (out most) on;
      };
  acts = acts h heads calls;
  as_shown = as_shown h heads calls;
  taken = taken h heads calls;
}

-- OF THE SAME LISTS

-- Every table is well formed, so that question 4 refuses nothing.
pub tables_well_formed : (h : Head) → Heads h → (calls : List Call) (i : ℕ) → well_formed (table_at h calls i) ≡ true
tables_well_formed h heads calls i = tested _ (moment-at h heads calls i).related.formed

pub never_4 : (h : Head) → Heads h → (calls : List Call) (i : ℕ) (s w : List ℕ) (a : EventAnswer) (after : List Entry)
    → drop i (entries h calls) ≡ answered s w a ∷ after → a.refusal ≢ 4
never_4 h heads calls i s w a after q z =
    let t = table_at h calls i in
    let e : a.refusal ≡ first_no (step_questions t s (length w))
    = ap (λ (x : EventAnswer). x.refusal) (event-at h heads calls i s w a after q)
    ∙ (ap (λ (o : Outcome). o.answer.refusal) (event_is_step t s (length w) (tables_well_formed h heads calls i)) ∙ step-first_no t s (length w)) in
    elim (step_refusals t s (length w)) [ inl k ↦ absurd (omega arith) | inr k ↦ absurd (omega arith) ]

-- FOR ANY WEIGHT of a message, a number that its payload gives: each sum of the demand is one of them, for a payload keeps both parts of
-- the amount. What was applied weighs what the table computes, and at the ending it weighs what remains.
pub any_weight : (h : Head) → Heads h → (calls : List Call) (v : Payload → ℕ) (i c : ℕ) → Among (controllers h) c
    → weights (λ (x : Sent). v x.payload) (moment h calls i).sent (applied (moment h calls i) c) ≡ weigh v (messages_of (table_at h calls i)) (at (table_at h calls i) c).applied
any_weight h heads calls v i c k = weights-weigh (moment-at h heads calls i).recorded (of_payload v) c k

pub any_weight_ending : (h : Head) → Heads h → (calls : List Call) (v : Payload → ℕ) (i r : ℕ)
    → ReadOut (controllers h) (moment h calls i) → IsRunning (controllers h) (moment h calls i) r
    → weights (λ (x : Sent). v x.payload) (moment h calls i).sent (applied (moment h calls i) r) ≡ weights (λ (x : Sent). v x.payload) (moment h calls i).sent (remaining (moment h calls i))
any_weight_ending h heads calls v i r e on =
    let m = moment-at h heads calls i in
    same_members_same-weights m.recorded _ _ _ (m.recorded.once r) (distinct-remaining m.recorded) (moment_ending m e r on)

-- From the number that the questions give, and the pair that is chosen, to what the dispatcher answers and leaves. Assumes nothing.
use mathlib.Core.Path.{◌≡◌, refl, sym, ap, ◌∙◌}
use mathlib.Core.Bool.{Bool, true, false, ◌&&◌, cond}
use mathlib.Core.List.{List}
use Prim.Native.Nat.{ℕ, ◌≤◌}
use lib.ListN.{length}
use Rattle.std.specs.Prelude.{Option, Some, None}
use Rattle.lists.proofs.Tests.{and_left, and_right, cond_true, contradiction}
use Rattle.model.specs.Tables.{Among, seats, scratch_size}
use Rattle.model.specs.Fair.{named}
use Rattle.model.specs.WellFormed.{well_formed}
use Rattle.model.specs.Refusals.{refusal_number}
use Rattle.model.specs.Questions.{first_no}
use Rattle.model.specs.Calls.{answering, refused}
use Rattle.model.specs.declared.Pair.{Pair}
use Rattle.model.specs.declared.Table.{Table}
use Rattle.model.specs.declared.refusal.Refusal.{Refusal}
use Rattle.model.proofs.Tested.{named-at, facts}
use Rattle.model.proofs.Refused.{refusal_is}
use Rattle.invariant.proofs.Stores.{seated}
use Rattle.turns.specs.Dispatcher.{some?, handover, dispatch_questions, DispatchOutcome, with_handover, with_none, dispatch, scratch_served, dispatch_answer_of}
use Rattle.turns.specs.Claims.{InRange}
use Rattle.turns.proofs.Dispatching.{Serves, dispatch_case}
use Rattle.effects.specs.declared.Effect.{Effect}
use Rattle.effects.specs.Conditions.{Accepted}
use Rattle.effects.specs.Effects.{no_set, effect_of, Acts, Stores}
use Rattle.dispatcher.specs.declared.Handed.{Handed}
use Rattle.dispatcher.specs.Handed.{if_some, next_of, handed_of, unchanged, Dispatches}

-- past questions 4 and 8
pub in_range : (t : Table) (p : Pair) → well_formed t ≡ true → (named t.n p.receiver && named t.n p.owner) ≡ true → (t.n ≤ seats) × InRange t.n p
in_range t p f e = ((facts t f).few, record { receiver = named-at t _ (and_left _ _ e); owner = named-at t _ (and_right (named t.n p.receiver) _ e) })

-- the pair is the one that there is
some_is : (q p : Pair) → Some p ≡ if_some q → (some? q ≡ true) × (p ≡ q)
some_is q p = go (some? q)
  where
    go : (b : Bool) → ◌≡◌ {A = Option Pair} (Some p) (cond b (Some q) None) → (b ≡ true) × (p ≡ q)
    go true e = (refl, cc)
    go false e = cc

none_is : (q : Pair) → None ≡ if_some q → some? q ≡ false
none_is q = go (some? q)
  where
    go : (b : Bool) → ◌≡◌ {A = Option Pair} None (cond b (Some q) None) → b ≡ false
    go true e = cc
    go false e = refl

module _ (t : Table) (p : Pair) (w : List ℕ) where
  abbrev q : Pair
  q = next_of t p

  abbrev asked : ℕ
  asked = first_no (dispatch_questions t p q (length w))

  -- none is served
  unserved : (asked ≡ 0 → some? q ≡ false) → (handed_of (dispatch t p (length w)) ≡ unchanged t asked) × (scratch_served (dispatch t p (length w)).answer.pair w ≡ w)
  unfolding handed_of dispatch_answer_of with_none unchanged refused no_set scratch_served
  unserved f =
      dispatch_case t p (length w) (λ (o : DispatchOutcome). (handed_of o ≡ unchanged t asked) × (scratch_served o.answer.pair w ≡ w))
      (λ s. contradiction s.some (f s.asked)) (λ _. (refl, refl))

  unserved_answer : (asked ≡ 0 → some? q ≡ false) → (k : ℕ) → k ≡ asked → (h : Handed) → h ≡ unchanged t k → Dispatches t p w h w
  unserved_answer f k e h d = record { outcome = d ∙ ap (unchanged t) e ∙ sym (unserved f).0; clear = sym (unserved f).1 }

  pub refused_answer : (r : Refusal) → refusal_number r ≡ asked → (h : Handed) → h ≡ unchanged t (refusal_number r) → Dispatches t p w h w
  refused_answer r e = unserved_answer (λ z. absurd (refusal_is r (e ∙ z))) (refusal_number r) e

  pub none_answer : 0 ≡ asked → None ≡ if_some q → (h : Handed) → h ≡ unchanged t 0 → Dispatches t p w h w
  none_answer e n = unserved_answer (λ _. none_is q n) 0 e

  -- s was chosen: its handover is allowed, and is what the call makes
  pub record Chosen (s : Pair) : Type 0 where
    pub receiver : Among seats s.receiver
    pub owner : Among seats s.owner
    pub some : some? s ≡ true
    pub accepted : Accepted t (handover s)
    pub roomy : scratch_size ≤ length w
    pub outcome : dispatch t p (length w) ≡ with_handover t s

  pub chosen : (s : Pair) → 0 ≡ asked → Some s ≡ if_some q → Chosen s
  chosen s e n =
      let i = some_is q s n in
      let (a, o) = dispatch_case t p (length w) (λ o. Serves t p (length w) × (o ≡ with_handover t q)) (λ a. (a, refl)) (λ f. contradiction i.0 (f (sym e))) in
      let few = (facts t a.passed.formed).few in
      rw i.1 (record {
        receiver = seated few a.range.receiver;
        owner = seated few a.range.owner;
        some = a.some;
        accepted = (a.passed.formed, a.allowed);
        roomy = a.passed.enough a.some;
        outcome = o;
      })

  -- and is carried out
  pub served_answer : (s : Pair) → Chosen s → (d : Effect) (v : List ℕ) → Acts t (handover s) w d v → (x : Table) → Stores t (handover s) d.controller x
      → Dispatches t p w (record { answer = record { pair = s; answer = d.answer }; table = x }) v
  unfolding handed_of dispatch_answer_of with_handover answering effect_of scratch_served
  served_answer s c d v a x l =
      let f = a.effected c.accepted c.roomy in
      let ex = l.stored (c.accepted, ap (λ (y : Effect). y.controller) f.effect) in
      record {
        outcome = rw (c.outcome, f.effect, ex) refl;
        clear = rw c.outcome (f.clear ∙ sym (cond_true {b = some? s} _ _ c.some));
      }

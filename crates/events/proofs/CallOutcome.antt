-- From what an event does to what the event call answers and leaves, refused or not. Assumes nothing.
use mathlib.Core.Path.{◌≡◌, refl}
use mathlib.Core.Logic.{◌≢◌}
use mathlib.Core.Bool.{true}
use mathlib.Core.List.{List, ◌∷◌}
use Prim.Native.Nat.{ℕ, ◌+◌}
use lib.ListN.{length}
use borrow.Author.Tests.{ne_eqb}
use Rattle.model.specs.Tables.{at}
use Rattle.model.specs.Events.{next, resulting, shown, panel_of}
use Rattle.model.specs.Records.{size, decode}
use Rattle.model.specs.WellFormed.{well_formed}
use Rattle.model.specs.Questions.{first_no, lent_table, step_questions}
use Rattle.model.specs.Calls.{Outcome, answering, accepted, refused, settled, step, event, scratch_after, answer_of}
use Rattle.model.specs.declared.Controller.{Controller}
use Rattle.model.specs.declared.Table.{Table}
use Rattle.model.specs.declared.Event.{Event}
use Rattle.model.specs.declared.Command.TheVariants.{Act, Read}
use Rattle.model.specs.declared.Answer.{Answer}
use Rattle.model.specs.Refusals.{refusal_number}
use Rattle.model.specs.declared.refusal.Refusal.{Refusal}
use Rattle.model.proofs.Steps.{step_is_accepted, event_is_step}
use Rattle.model.proofs.Refused.{refusal_is}
use Rattle.events.specs.declared.Stepped.{Stepped}
use Rattle.effects.specs.declared.Effect.{Effect}
use Rattle.effects.specs.Effects.{no_set, read_answer, effect_of, Effected, Reads}
use Rattle.events.specs.Stepped.{stepped_of, unchanged, Answers, Steps}

module _ (t : Table) (s w : List ℕ) where
  refused_answer : (o : Outcome) (k : ℕ) → o ≡ refused t s k → k ≢ 0 → (r : Stepped) → r ≡ unchanged t k → Answers o s w r w
  unfolding stepped_of refused unchanged no_set answer_of scratch_after
  refused_answer o k e n r d = rw e (record { outcome = rw (ne_eqb k 0 n) d; clear = rw (ne_eqb k 0 n) refl })

  -- the command of the bytes is accepted, and uses them
  module _ (z : first_no (step_questions t s (length w)) ≡ 0) (u : ℕ) (eu : u ≡ size s + 1) where
    pub step_acted : (e : Event) → decode t.version s ≡ Act e → (d : Effect) (v : List ℕ) → Effected t e w d v → (x : Table) → x ≡ next t e
        → Answers (step t s (length w)) s w (record { answer = d.answer; used = u; table = x }) v
    unfolding stepped_of accepted answering resulting effect_of answer_of scratch_after
    step_acted e q d v a x ex =
        rw (step_is_accepted t s (length w) z) (record { outcome = rw (a.effect, ex, eu, q) refl; clear = rw q a.clear })

    pub step_read : (c : ℕ) → decode t.version s ≡ Read c → (x : Controller) → x ≡ at t c → (a : Answer) (v : List ℕ) → Reads t x w a v
        → Answers (step t s (length w)) s w (record { answer = a; used = u; table = t }) v
    unfolding stepped_of accepted answering resulting read_answer answer_of scratch_after panel_of shown
    step_read c q x ex a v r =
        rw (step_is_accepted t s (length w) z) (record { outcome = rw (r.sums_are, ex, eu, q) refl; clear = rw q r.clear })

  -- a refusal, by the questions in their order
  pub event-refused : (q : Refusal) → refusal_number q ≡ first_no (lent_table t ∷ step_questions t s (length w)) → (r : Stepped)
      → r ≡ unchanged t (refusal_number q) → Steps t s w r w
  unfolding event settled
  event-refused q e r d = refused_answer (event t s (length w)) (refusal_number q) (rw (← e, ne_eqb _ 0 (refusal_is q)) refl) (refusal_is q) r d

  pub event_stepped : (r : Stepped) (v : List ℕ) → well_formed t ≡ true → Answers (step t s (length w)) s w r v → Steps t s w r v
  event_stepped r v f d = rw (event_is_step t s (length w) f) d

-- Of every look and of every event's answer, on every table: each sum is at most 23,040, and both together are; and the sums of the classes
-- add up to the whole. Assumes nothing.
use mathlib.Core.Path.{◌≡◌, refl, sym}
use mathlib.Core.Bool.{true, false}
use mathlib.Core.List.{List, [], ◌∷◌, foldr}
use Prim.Native.Nat.{ℕ, zero, suc}
use native.Mathlib.Omega.{arith}
use lib.Dec.{eqb}
use borrow.Author.Tests.{eqb-true}
use Rattle.lists.specs.Build.{tabulate_from, tabulate}
use Rattle.lists.proofs.Tests.{cond_case, contradiction}
use Rattle.lists.specs.Every.{Every}
use Rattle.lists.proofs.Clipped.{any_none}
use Rattle.model.specs.Tables.{class_count, no_sums, no_panel, at, with_controller, message_in, messages_of}
use Rattle.model.specs.Events.{subject, next, with_sent, applied_by, weigh, plus, sums, class_sums, shown, panel_of, finishes}
use Rattle.model.specs.Records.{after_record, decode}
use Rattle.model.specs.WellFormed.{well_formed}
use Rattle.model.specs.Questions.{first_no, lent_table, look_questions, step_questions}
use Rattle.model.specs.Calls.{Outcome, answering, accepted, refused, event, look}
use Rattle.model.specs.declared.Sums.{Sums}
use Rattle.model.specs.declared.Panel.{Panel}
use Rattle.model.specs.declared.Controller.{Controller}
use Rattle.model.specs.declared.Table.{Table}
use Rattle.model.specs.declared.Event.{Event}
use Rattle.model.specs.declared.Event.TheVariants.{Send, Handover, Stop}
use Rattle.model.specs.declared.Command.{Command}
use Rattle.model.specs.declared.Command.TheVariants.{Act, Read}
use Rattle.model.specs.Facts.{WellFormed}
use Rattle.model.proofs.Tested.{facts}
use Rattle.model.proofs.Allowed.{no_no, look_asked}
use Rattle.model.proofs.Steps.{settled_case}
use Rattle.invariant.specs.Claims.{Bounded, BoundedPanel}
use Rattle.invariant.proofs.Bounds.{bounded, sums_bounded, class_bounded}
use Rattle.invariant.proofs.Classes.{classes_add_up}

none_bounded : Bounded no_sums
none_bounded = bounded no_sums (omega arith)

-- LOOKS: a refused one shows zeros

every-tabulate : (P : Sums → Type 0) (f : ℕ → Sums) (i n : ℕ) → ((k : ℕ) → P (f k)) → Every P (tabulate_from i n f)
unfolding Every tabulate_from
every-tabulate P f i zero h = tt
every-tabulate P f i (suc n) h = (h i, every-tabulate P f (suc i) n h)

look_case : (P : Panel → Type 0) → P no_panel → ((t : Table) → WellFormed t → (x : Controller) → P (shown (messages_of t) x.applied)) → (t : Table) (c : ℕ) → P (look t c).panel
unfolding look panel_of
look_case P none some t c =
    let k = first_no (look_questions t c) in
    cond_case P (eqb k 0) (shown (messages_of t) (at t c).applied) no_panel (λ e. some t (facts t (look_asked t c (eqb-true k 0 e)).0) (at t c)) (λ _. none)

pub look_bounded : (t : Table) (c : ℕ) → BoundedPanel (look t c).panel
unfolding shown tabulate tabulate_from
look_bounded =
    look_case BoundedPanel (record { sums = none_bounded; classes = every-tabulate Bounded (λ _. no_sums) 0 class_count (λ _. none_bounded) })
    (λ t f x. record { sums = sums_bounded t f x; classes = every-tabulate Bounded (class_sums (messages_of t) x.applied) 0 class_count (class_bounded t f x) })

pub look_adds_up : (t : Table) (c : ℕ) → foldr plus no_sums (look t c).panel.classes ≡ (look t c).panel.sums
look_adds_up = look_case (λ (p : Panel). foldr plus no_sums p.classes ≡ p.sums) refl classes_add_up

-- EVENTS: a sync that is finished, a local read; all else answers zeros

-- no set finishes a sync where it is empty
none_finished : (t : Table) (c : ℕ) → finishes (messages_of t) [] c ≡ false
unfolding finishes
none_finished t c = sym (any_none t.count _ (λ s _. refl))

answering_bounded : (t : Table) → WellFormed t → (a : Command) (r : List ℕ) → Bounded (answering t a r).sums
unfolding answering panel_of shown applied_by subject next with_sent with_controller sums weigh message_in
answering_bounded t f (Read c) r = sums_bounded t f (at t c)
answering_bounded t f (Act e) r = cond_case Bounded (finishes (messages_of t) (applied_by t e) (subject e)) _ no_sums (go e) (λ _. none_bounded)
  where
    go : (e : Event) → finishes (messages_of t) (applied_by t e) (subject e) ≡ true → Bounded (panel_of (next t e) (subject e)).sums
    go (Send c p) q = contradiction q (none_finished t c)
    go (Handover r o) q = sums_bounded t f (at (next t (Handover r o)) r)
    go (Stop c k) q = contradiction q (none_finished t c)

pub answer_bounded : (t : Table) (s : List ℕ) (room : ℕ) → Bounded (event t s room).answer.sums
unfolding event accepted refused lent_table
answer_bounded t s room =
    settled_case (λ (o : Outcome). Bounded o.answer.sums) t s (first_no (lent_table t ∷ step_questions t s room))
    (λ e. answering_bounded t (facts t (no_no 3 (well_formed t) _ e).0) (decode t.version s) (after_record s)) (λ _. none_bounded)

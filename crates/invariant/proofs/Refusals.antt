-- The numbers that a step can give: 0, 5 to 15 or 17 to 20. Assumes nothing.
use mathlib.Core.Path.{◌≡◌, refl}
use mathlib.Core.Logic.{◌⊎◌, inl, inr}
use mathlib.Core.List.{List, [], ◌∷◌, ◌++◌}
use Prim.Native.Nat.{ℕ}
use native.Mathlib.Omega.{arith}
use Rattle.lists.proofs.Tests.{cond_case}
use Rattle.model.specs.Records.{decode}
use Rattle.model.specs.Questions.{Question, first_no, kind_questions, record_questions, payload_questions, sender_questions, send_questions, handover_questions, stop_questions, read_questions, event_questions, command_questions, scratch_room, step_questions}
use Rattle.model.specs.declared.Table.{Table}
use Rattle.model.specs.declared.Event.TheVariants.{Send, Handover, Stop}
use Rattle.model.specs.declared.Command.{Command}
use Rattle.model.specs.declared.Command.TheVariants.{Act, Read}
use Rattle.invariant.specs.Claims.{StepNumber}

-- every question has such a number
abbrev Numbers : List Question → Type 0
Numbers [] = Unit {0}
Numbers (q ∷ qs) = StepNumber q.number × Numbers qs

first_number : (qs : List Question) → Numbers qs → (first_no qs ≡ 0) ⊎ StepNumber (first_no qs)
unfolding first_no
first_number [] w = inl refl
first_number (q ∷ qs) w = cond_case (λ k. (k ≡ 0) ⊎ StepNumber k) q.yes (first_no qs) q.number (λ _. first_number qs w.1) (λ _. inr w.0)

step_numbers : (t : Table) (v : ℕ) (s : List ℕ) (room : ℕ) (a : Command) → Numbers (record_questions v s ++ (command_questions t a ++ (scratch_room room ∷ [])))
unfolding record_questions kind_questions payload_questions sender_questions send_questions handover_questions stop_questions read_questions event_questions command_questions scratch_room
step_numbers t v s room (Act (Send c p)) = omega arith
step_numbers t v s room (Act (Handover r o)) = omega arith
step_numbers t v s room (Act (Stop c k)) = omega arith
step_numbers t v s room (Read c) = omega arith

pub step_refusals : (t : Table) (s : List ℕ) (room : ℕ) → (first_no (step_questions t s room) ≡ 0) ⊎ StepNumber (first_no (step_questions t s room))
unfolding step_questions
step_refusals t s room = first_number _ (step_numbers t t.version s room (decode t.version s))

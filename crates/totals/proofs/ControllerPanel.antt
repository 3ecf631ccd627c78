-- A controller's panel, and that past the last it shows what it would if nothing was sent, which is nothing. Assumes nothing.
use mathlib.Core.Path.{◌≡◌, refl, sym, ◌∙◌}
use mathlib.Core.List.{List, []}
use Prim.Native.Nat.{ℕ, zero, suc, ◌-◌, ◌≤◌}
use lib.ListN.{length, get_or, replicate, length-replicate, get_or-replicate, get_or-eq_default}
use Rattle.lists.specs.Build.{tabulate}
use Rattle.lists.proofs.Build.{tabulate_self}
use Rattle.lists.proofs.Clipped.{sum-none}
use Rattle.model.specs.Tables.{Messages, class_count, register_count, no_sums, no_register, no_panel, no_controller, controller_in, flagged, messages_of}
use Rattle.model.specs.Registers.{newest, register_of, registers}
use Rattle.model.specs.Events.{weigh, sums, of_class, class_sums, shown, panel_of}
use Rattle.model.specs.declared.Payload.{Payload}
use Rattle.model.specs.declared.Message.{Message}
use Rattle.model.specs.declared.Controller.{Controller}
use Rattle.model.specs.declared.Table.{Table}

-- the same element n times over
alike : {A : Type 0} (n : ℕ) (d : A) (f : ℕ → A) → ((k : ℕ) → f k ≡ d) → replicate n d ≡ tabulate n f
alike {A} n d f e = sym (tabulate_self (replicate n d) d n f (length-replicate {A = A} n d) (λ k h. e k ∙ sym (get_or-replicate {A = A} n k d d h)))

none_weighed : (M : Messages) (w : Payload → ℕ) → weigh w M [] ≡ 0
unfolding weigh
none_weighed M w = sym (sum-none _ M.count (λ s. refl))

none_classed : (M : Messages) (k : ℕ) → class_sums M [] k ≡ no_sums
unfolding class_sums
none_classed M k = rw (none_weighed M (of_class k (λ p. p.added)), none_weighed M (of_class k (λ p. p.withdrawn))) refl

none_written : (M : List Message) (k r : ℕ) → newest k M (flagged []) r ≡ no_register
unfolding newest
none_written M zero r = refl
none_written M (suc k) r = none_written M k r

shown_none : (M : Messages) → no_panel ≡ shown M []
unfolding shown sums registers register_of
shown_none M =
    rw (none_weighed M (λ p. p.added), none_weighed M (λ p. p.withdrawn), ← alike class_count no_sums _ (none_classed M), ← alike register_count no_register _ (λ i. none_written M.slots M.count (suc i))) refl

module _ (t : Table) (c : ℕ) where
  pub panel_past : length t.controllers ≤ c - 1 → no_panel ≡ panel_of t c
  unfolding panel_of controller_in
  panel_past h = rw (get_or-eq_default t.controllers no_controller h) (shown_none (messages_of t))

  pub panel_at : (x : Controller) → x ≡ get_or t.controllers (c - 1) no_controller → shown (messages_of t) x.applied ≡ panel_of t c
  unfolding panel_of controller_in
  panel_at x e = rw e refl

-- A later ledger has all that an earlier one has: what was sent, and what each controller has applied. Assumes nothing.
use mathlib.Core.Path.{◌≡◌, refl, sym, ap, ◌∙◌}
use mathlib.Core.Bool.{true}
use mathlib.Core.List.{List, [], ◌∷◌, ◌++◌, map, map-append, append-nil, append_assoc, flatten, foldl}
use Prim.Native.Nat.{ℕ}
use Rattle.lists.proofs.Tests.{or_left}
use Rattle.model.specs.declared.Name.{Name}
use Rattle.model.specs.declared.Event.TheVariants.{Send, Handover, Stop}
use Rattle.consistency.specs.Entries.{has, Step, carried}
use Rattle.consistency.specs.Ledger.{Sent, Ledger, applied, moved, sent_names}
use Rattle.consistency.specs.Demand3.{Contains}
use Rattle.consistency.proofs.Names.{has-append, flatten_last}
use Rattle.consistency.proofs.RecordedChanges.{put_case}

abbrev pub names : List Sent → List Name
names xs = map (λ x. x.name) xs

pub record Grown (l k : Ledger) : Type 0 where
  pub more : List Sent
  pub is : k.sent ≡ l.sent ++ more
  pub kept : (c : ℕ) → Contains (applied k c) (applied l c)

pub names_grown : {l k : Ledger} (g : Grown l k) → sent_names k ≡ sent_names l ++ names g.more
names_grown {l} g = ap names g.is ∙ map-append (λ (x : Sent). x.name) l.sent g.more

moved_grown : (l : Ledger) (x : Step) → Grown l (moved l x)
unfolding moved
moved_grown l (carried s (Send c p) ms) = record { more = _ ∷ []; is = refl; kept = λ d m e. e }
moved_grown l (carried s (Handover r o) ms) = record {
  more = [];
  is = sym (append-nil l.sent);
  kept = λ d m e.
      put_case (λ ss. has m (flatten ss) ≡ true) l.sets r (l.sets r ++ (ms ∷ [])) d
      (λ q. ap (has m) (flatten_last (l.sets r) ms) ∙ has-append m (applied l r) ms ∙ or_left _ (rw q at e)) (λ _. e);
}
moved_grown l (carried s (Stop c k) ms) = record { more = []; is = sym (append-nil l.sent); kept = λ d m e. e }

pub grown : (l : Ledger) (xs : List Step) → Grown l (foldl moved l xs)
grown l [] = record { more = []; is = sym (append-nil l.sent); kept = λ c m e. e }
grown l (x ∷ xs) =
    let a = moved_grown l x in
    let b = grown (moved l x) xs in
    record {
      more = a.more ++ b.more;
      is = b.is ∙ (ap (λ (ys : List Sent). ys ++ b.more) a.is ∙ append_assoc l.sent a.more b.more);
      kept = λ c m e. b.kept c m (a.kept c m e);
    }

-- A pass over the messages that were sent, each beside what an array has of its slot: what a turn reads, where the pass ends, and that
-- nothing past the array changes what it gives. Assumes nothing.
use mathlib.Core.Path.{◌≡◌, ◌∙◌}
use mathlib.Core.List.{List, [], ◌∷◌, ◌++◌}
use Prim.Native.Nat.{ℕ, zero, suc, min, ◌≤◌, ◌<◌}
use native.Mathlib.Omega.{arith}
use native.Mathlib.Decide.{dec_lt}
use lib.ListN.{length, get_or, take, length-append}
use lib.Seq.{length-take-le}
use denote.Ref.{Bor}
use Rattle.std.specs.Prelude.{Option, Some, None}
use Rattle.std.specs.Iterator.{Yields}
use Rattle.std.specs.Iterator.Adapters.{zip_first, zip_second}
use Rattle.std.specs.Slice.Iter.{iter_rest}
use Rattle.std.specs.declared.iter.Zip.{Zip}
use Rattle.std.proofs.Common.{Iter}
use Rattle.std.proofs.iter.Yields.{fronts}
use Rattle.std.proofs.lemmas.Iterator.{zips}
use Rattle.std.proofs.lemmas.List.{get_or-take}
use Rattle.std.proofs.lemmas.Slice.Zip.{zip_turn, zip_end}
use Rattle.model.specs.Tables.{capacity, no_message}
use Rattle.model.specs.declared.Message.{Message}

-- a turn reads slot s, which has this message and this element, and leaves n slots read
pub record Turn (M : List Message) {X : Type 0} (A : List X) (s n : ℕ) (m : Message) (x : X) : Type 0 where
  pub below : s < capacity
  pub next : n ≡ suc s
  pub message : m ≡ get_or M s no_message
  pub element : (d : X) → x ≡ get_or A s d

module _ {X : Type 0} (k : ℕ) (M : List Message) (A : List X) (l : length M ≡ capacity) (a : length A ≡ capacity)
    (xs : List (Bor Message × Bor X)) (s t u : Zip (Iter Message) (Iter X)) (r : Option (Bor Message × Bor X))
    (first : iter_rest (zip_first s) ≡ take (min k capacity) M) (second : iter_rest (zip_second s) ≡ A)
    (y : Yields (zips fronts fronts) s xs t) (step : zips fronts fronts t r u) where
  pub turn : (p : Bor Message × Bor X) → r ≡ Some p → Turn M A (length xs) (length (xs ++ p ∷ [])) p.0.now p.1.now
  turn p e =
      let z = zip_turn (take (min k capacity) M) A xs s t u r first second y p e step in
      let b : length xs < min k capacity = omega (arith, z.0, length-take-le (min k capacity) M (omega arith)) in
      record {
        below = omega arith;
        next = omega (arith, length-append xs (p ∷ []));
        message = z.2 no_message ∙ get_or-take (min k capacity) M (length xs) no_message b;
        element = z.3;
      }

  pub end : r ≡ None → length xs ≡ min k capacity
  end e =
      let z : length xs ≡ min (length (take (min k capacity) M)) (length A) = zip_end (take (min k capacity) M) A xs s t u r first second y e step in
      omega (arith, length-take-le (min k capacity) M (omega arith))

-- what ends where its array does
pub clipped : {A : Type 0} (f : ℕ → A) (m : ℕ) → ((k : ℕ) → m ≤ k → f (suc k) ≡ f k) → (n : ℕ) → f (min n m) ≡ f n
clipped f m same zero = let e : min zero m ≡ zero = omega arith in rw e
clipped f m same (suc n) = elim (dec_lt n m) [
  | yes h ↦ let e : min (suc n) m ≡ suc n = omega arith in rw e
  | no h ↦ let e : min (suc n) m ≡ min n m = omega arith in rw (e, same n (omega arith)) (clipped f m same n)
]

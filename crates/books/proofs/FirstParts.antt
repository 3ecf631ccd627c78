-- The first part of bytes, and the bytes after it, as the code splits them off. Assumes nothing.
use Prim.Native.Nat.{ℕ, suc, ◌+◌, ◌-◌, ◌<◌}
use mathlib.Core.Path.{◌≡◌, refl, sym, ap, ap₂, ◌∙◌}
use mathlib.Core.Bool.{false, ◌&&◌}
use mathlib.Core.List.{List, ◌∷◌}
use native.Mathlib.Omega.{arith}
use lib.ListN.{length, get_or, take, drop, length-drop}
use lib.Seq.{take_all, drop-drop}
use lib.Dec.{leb}
use denote.Ref.{Bor}
use borrow.Author.Tests.{le-leb, lt-leb}
use Rattle.std.specs.Prelude.{Option, MatchOption, Some, None}
use Rattle.std.specs.List.{IsSplitAt}
use Rattle.model.specs.Records.{word}
use Rattle.model.specs.Books.{size_in, parts, whole}
use Rattle.histories.proofs.Parts.{parts_turn, whole_turn, size_of_one, size_of_two}
use Rattle.books.specs.Layout.{FirstPart}

-- what is split off after a length of w bytes
abbrev pub SplitPart : ℕ → List ℕ → Option (Bor (List ℕ) × Bor (List ℕ)) → Type 0
SplitPart w s r = MatchOption r (0 < length s → whole w 0 s ≡ false) (λ p. FirstPart w s p.0.now p.1.now)

-- n bytes, if so many stand in t
abbrev pub SplitOff : List ℕ → ℕ → Option (Bor (List ℕ) × Bor (List ℕ)) → Type 0
SplitOff t n r = MatchOption r (length t < n) (λ p. IsSplitAt t n p.0.now p.1.now)

-- all bytes from a place on
pub tail_is : (s : List ℕ) (from : ℕ) → take (length s - from) (drop from s) ≡ drop from s
tail_is s from = take_all (length s - from) (drop from s) (omega (arith, length-drop from s))

-- the length of w + 1 bytes is n, and the bytes t stand after it
module _ (w : ℕ) (s t : List ℕ) (n : ℕ) (inside : w < length s) (is : size_in (suc w) s ≡ n) (here : t ≡ drop (suc w) s) where
  from : 0 + suc w ≡ suc w
  from = omega arith

  part : parts (suc w) 0 s ≡ take n t ∷ parts (suc w) 0 (drop n t)
  part = parts_turn w s 0 (omega arith) ∙ rw (from, is, here, drop-drop n (suc w) s) refl

  there : whole (suc w) 0 s ≡ (leb (suc w + n) (length s) && whole (suc w) 0 (drop n t))
  there = whole_turn w s 0 (omega arith) ∙ rw (from, is, here, drop-drop n (suc w) s) refl

  long : length s ≡ suc w + length t
  long = omega (arith, ap (λ (x : List ℕ). length x) here, length-drop (suc w) s)

  split : (r : Option (Bor (List ℕ) × Bor (List ℕ))) → SplitOff t n r → SplitPart (suc w) s r
  split None h = λ _. there ∙ rw (lt-leb (suc w + n) (length s) (omega (arith, long, h))) refl
  split (Some p) h = record {
    turn = part ∙ ap₂ (λ (x y : List ℕ). x ∷ parts (suc w) 0 y) (sym h.1) (sym h.2);
    there = there ∙ rw (le-leb (suc w + n) (length s) (omega (arith, long, h.0)), ← h.2) refl;
    long = omega (arith, long, h.3, h.4);
  }

pub split_one : (s : List ℕ) (n : ℕ) (t : List ℕ) → s ≡ n ∷ t → (r : Option (Bor (List ℕ) × Bor (List ℕ))) → SplitOff t n r → SplitPart 1 s r
split_one s n t e r h =
    let d : t ≡ drop 1 s = ap (drop 1) (sym e) in
    let f : 0 < length s = omega (arith, ap (λ (x : List ℕ). length x) e) in
    split 0 s t n f (size_of_one s 0 ∙ ap (λ (x : List ℕ). get_or x 0 0) e) d r h

pub split_two : (s : List ℕ) → 1 < length s → (r : Option (Bor (List ℕ) × Bor (List ℕ))) → SplitOff (take (length s - 2) (drop 2 s)) (word s 0) r → SplitPart 2 s r
split_two s f r h = split 1 s (take (length s - 2) (drop 2 s)) (word s 0) f (size_of_two s 0) (tail_is s 2) r h

-- one byte is no length of two
pub no_two : (s : List ℕ) → length s < 2 → 0 < length s → whole 2 0 s ≡ false
no_two s h k = whole_turn 1 s 0 k ∙ rw (lt-leb (0 + 2 + size_in 2 s) (length s) (omega arith)) refl

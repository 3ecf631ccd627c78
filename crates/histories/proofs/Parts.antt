-- Laws of the parts and of the messages of a book file, at a place in it: what stands there, and where the next begins. Assumes nothing.
use Prim.Native.Nat.{ℕ, zero, suc, ◌+◌, ◌-◌, ◌≤◌, ◌<◌}
use mathlib.Core.Path.{◌≡◌, refl, ap, ◌∙◌}
use mathlib.Core.Bool.{true, false, ◌&&◌}
use mathlib.Core.List.{List, [], ◌∷◌}
use native.Mathlib.Omega.{arith}
use native.Mathlib.Decide.{dec_lt}
use native.Mathlib.Nat.{le_refl}
use lib.ListN.{length, get_or, take, drop, length-drop, drop_of_length-le}
use lib.Seq.{drop-cons, drop-drop, get_or-drop}
use lib.Dec.{leb}
use borrow.Author.Tests.{leb-true, le-leb, lt-leb, ne_eqb}
use Rattle.lists.proofs.Tests.{bool_eq}
use Rattle.model.specs.Tables.{seats, capacity}
use Rattle.model.specs.Names.{name}
use Rattle.model.specs.Fair.{named}
use Rattle.model.specs.Records.{word}
use Rattle.model.specs.Books.{size_in, parts, whole, names, good_names}

-- PARTS

leb_alike : (a b c d : ℕ) → (a ≤ b → c ≤ d) → (c ≤ d → a ≤ b) → leb a b ≡ leb c d
leb_alike a b c d f g = bool_eq (leb a b) (leb c d) (λ e. le-leb c d (f (leb-true a b e))) (λ e. le-leb a b (g (leb-true c d e)))

-- the bytes of the part before are passed
pub parts_skip : (w k : ℕ) (s : List ℕ) → parts w k s ≡ parts w 0 (drop k s)
unfolding parts
parts_skip w zero s = refl
parts_skip w (suc k) [] = refl
parts_skip w (suc k) (b ∷ s) = parts_skip w k s

pub whole_skip : (w k : ℕ) (s : List ℕ) → whole w k s ≡ (leb k (length s) && whole w 0 (drop k s))
unfolding whole
whole_skip w zero s = rw (le-leb 0 (length s) (omega arith))
whole_skip w (suc k) [] = rw (lt-leb (suc k) 0 (omega arith), ne_eqb (suc k) 0 (λ e. omega (arith, e)))
whole_skip w (suc k) (b ∷ s) = rw (leb_alike (suc k) (suc (length s)) k (length s) (λ h. omega arith) (λ h. omega arith)) (whole_skip w k s)

module _ (w b : ℕ) (s : List ℕ) where
  abbrev first : ℕ
  first = size_in (suc w) (b ∷ s)

  back : suc w - 1 + first ≡ w + first
  back = omega arith

  parts_cons : parts (suc w) 0 (b ∷ s) ≡ take first (drop w s) ∷ parts (suc w) 0 (drop (w + first) s)
  unfolding parts
  parts_cons = ap (λ (x : List (List ℕ)). take first (drop w s) ∷ x) (ap (λ (k : ℕ). parts (suc w) k s) back ∙ parts_skip (suc w) (w + first) s)

  whole_cons : whole (suc w) 0 (b ∷ s) ≡ (leb (w + first) (length s) && whole (suc w) 0 (drop (w + first) s))
  unfolding whole
  whole_cons = ap (λ (k : ℕ). whole (suc w) k s) back ∙ whole_skip (suc w) (w + first) s

module _ (w : ℕ) (s : List ℕ) (at : ℕ) (within : at < length s) where
  abbrev size : ℕ
  size = size_in (suc w) (drop at s)

  abbrev next : ℕ
  next = at + suc w + size

  here : drop at s ≡ get_or s at 0 ∷ drop (suc at) s
  here = drop-cons s at 0 within

  passed : (k : ℕ) → drop k (drop (suc at) s) ≡ drop (at + suc k) s
  passed k = let e : suc at + k ≡ at + suc k = omega arith in rw (drop-drop k (suc at) s, e)

  -- the part that begins there, and those after it
  pub parts_turn : parts (suc w) 0 (drop at s) ≡ take size (drop (at + suc w) s) ∷ parts (suc w) 0 (drop next s)
  parts_turn =
      let k = size_in (suc w) (get_or s at 0 ∷ drop (suc at) s) in
      let e : at + suc (w + k) ≡ at + suc w + k = omega arith in
      rw (here, parts_cons w (get_or s at 0) (drop (suc at) s), passed w, passed (w + k), e)

  -- and its bytes are there, as those of the parts after it
  pub whole_turn : whole (suc w) 0 (drop at s) ≡ (leb next (length s) && whole (suc w) 0 (drop next s))
  whole_turn =
      let k = size_in (suc w) (get_or s at 0 ∷ drop (suc at) s) in
      let e : at + suc (w + k) ≡ at + suc w + k = omega arith in
      let left = length (drop (suc at) s) in
      let f = leb_alike (w + k) left (at + suc w + k) (length s) (λ h. omega (arith, length-drop (suc at) s)) (λ h. omega (arith, length-drop (suc at) s)) in
      rw (here, whole_cons w (get_or s at 0) (drop (suc at) s), passed (w + k), e, f)

-- LENGTHS

pub size_of_one : (s : List ℕ) (at : ℕ) → size_in 1 (drop at s) ≡ get_or s at 0
unfolding size_in
size_of_one s at = let e : at + 0 ≡ at = omega arith in rw (get_or-drop at s 0 0, e)

pub size_of_two : (s : List ℕ) (at : ℕ) → size_in 2 (drop at s) ≡ word s at
unfolding size_in
size_of_two s at = let e : at + 0 ≡ at = omega arith in rw (get_or-drop at s 0 0, e, get_or-drop at s 1 0)

-- MESSAGES

module _ (s : List ℕ) (at : ℕ) where
  two_bytes : at + 1 < length s → drop at s ≡ get_or s at 0 ∷ get_or s (at + 1) 0 ∷ drop (at + 2) s
  two_bytes h =
      let e : suc at ≡ at + 1 = omega arith in
      let f : suc (at + 1) ≡ at + 2 = omega arith in
      rw (drop-cons s at 0 (omega arith), e, drop-cons s (at + 1) 0 h, f)

  -- the message that begins there, and those after it
  pub names_turn : at + 1 < length s → names (drop at s) ≡ name (get_or s at 0) (get_or s (at + 1) 0) ∷ names (drop (at + 2) s)
  unfolding names
  names_turn h = rw (two_bytes h)

  pub good_turn : at + 1 < length s → good_names (drop at s) ≡ ((named seats (get_or s at 0) && named capacity (get_or s (at + 1) 0)) && good_names (drop (at + 2) s))
  unfolding good_names
  good_turn h = rw (two_bytes h)

  one_byte : at + 1 ≡ length s → drop at s ≡ get_or s at 0 ∷ []
  one_byte e =
      let f : suc at ≡ length s = omega arith in
      rw (drop-cons s at 0 (omega arith), f, drop_of_length-le s (le_refl (length s)))

  -- no message begins there
  pub names_end : length s ≤ at + 1 → at ≤ length s → names (drop at s) ≡ []
  unfolding names
  names_end h k = elim (dec_lt at (length s)) [ yes l ↦ rw (one_byte (omega arith)) | no f ↦ rw (drop_of_length-le s {i = at} (omega (arith, f))) ]

  pub good_end : at ≡ length s → good_names (drop at s) ≡ true
  unfolding good_names
  good_end e = rw (drop_of_length-le s {i = at} (omega arith))

  -- a byte is left over
  pub good_odd : at + 1 ≡ length s → good_names (drop at s) ≡ false
  unfolding good_names
  good_odd e = rw (one_byte e)

-- What chains over the messages, and over the controllers, compute: past the end of an array nothing counts. Assumes nothing.
use mathlib.Core.Path.{◌≡◌, refl, sym, ap, ◌∙◌}
use mathlib.Core.Bool.{Bool, true, false, ◌&&◌, cond}
use mathlib.Core.List.{List, [], ◌∷◌}
use Prim.Native.Nat.{ℕ, zero, suc, ◌+◌, max, min, ◌≤◌}
use native.Mathlib.Omega.{arith}
use native.Mathlib.Decide.{dec_lt}
use lib.Dec.{eqb, leb, ltb}
use lib.ListN.{length, get_or, take, get_or-eq_default}
use borrow.Author.Tests.{le-leb}
use Rattle.std.specs.List.{filter, fold, list_all, list_any, zip}
use Rattle.std.proofs.lemmas.List.{take_more}
use Rattle.std.proofs.lemmas.List.Sums.{fold-append}
use Rattle.lists.specs.Below.{count, all, greatest}
use Rattle.lists.proofs.Chains.{Reads, reads_list, reads_take, reads_zip, reads_all, reads_some}
use Rattle.model.specs.Tables.{Messages, seats, capacity, yes?, no_message, no_pending, no_controller, message_in, in_buffer, flagged}
use Rattle.model.specs.Events.{number_of}
use Rattle.model.specs.Questions.{own_pending, latest, synced, is_sync}
use Rattle.model.specs.declared.Message.{Message}
use Rattle.model.specs.declared.Pending.{Pending}
use Rattle.model.specs.declared.Controller.{Controller}

-- what does not change past m comes out the same where it is clipped there
clipped : {X : Type 0} (F : ℕ → X) (m : ℕ) → ((n : ℕ) → m ≤ n → F (suc n) ≡ F n) → (n : ℕ) → F (min n m) ≡ F n
clipped F m h zero = let e : min zero m ≡ zero = omega arith in rw e
clipped F m h (suc n) = elim (dec_lt n m) [
  | yes l ↦ let e : min (suc n) m ≡ suc n = omega arith in rw e
  | no l ↦ let e : min (suc n) m ≡ min n m = omega arith in rw e (clipped F m h n ∙ sym (h n (omega arith)))
]

-- the elements of an array, as far as they are read
first_reads : {A : Type 0} (xs : List A) (d : A) (n m : ℕ) → length xs ≡ m → Reads (take (min n m) xs) (min n m) (λ s. get_or xs s d)
first_reads xs d n m l = reads_take (min n m) (reads_list xs d m l) (omega arith)

-- SEARCHES

module _ (M : Messages) (whole : length M.slots ≡ capacity) where
  some_sent : {X : Type 0} (A : List X) (d : X) → length A ≡ capacity → (q : Message × X → Bool) (p : ℕ → Bool)
      → ((s : ℕ) → q (get_or M.slots s no_message, get_or A s d) ≡ p s) → ((s : ℕ) → capacity ≤ s → p s ≡ false)
      → list_any q (zip (take (min M.count capacity) M.slots) A) ≡ ltb 0 (count M.count p)
  unfolding count
  some_sent A d l q p e past =
      reads_some q p (reads_zip (first_reads M.slots no_message M.count capacity whole) (reads_list A d capacity l) (omega arith)) (λ k _. e k)
      ∙ ap (ltb 0) (clipped (λ n. count n p) capacity (λ n h. rw (past n h)) M.count)

  pub own_sent : (P : List Pending) → length P ≡ capacity → (c : ℕ)
      → list_any (λ (m : Message × Pending). yes? (m.1).held && eqb (m.0).sender c) (zip (take (min M.count capacity) M.slots) P) ≡ own_pending M P c
  unfolding own_pending message_in
  own_sent P l c =
      some_sent P no_pending l _ (λ s. in_buffer P s && eqb (get_or M.slots s no_message).sender c) (λ s. refl)
      (λ s h. let e : get_or P s no_pending ≡ no_pending = get_or-eq_default P no_pending (omega arith) in rw e)

  pub sync_sent : (A : List ℕ) → length A ≡ capacity → (c : ℕ)
      → list_any (λ (m : Message × ℕ). yes? m.1 && is_sync c (latest M c) m.0) (zip (take (min M.count capacity) M.slots) A) ≡ synced M A c
  unfolding synced message_in
  sync_sent A l c =
      some_sent A 0 l _ (λ s. flagged A s && is_sync c (latest M c) (get_or M.slots s no_message)) (λ s. refl)
      (λ s h. let e : get_or A s 0 ≡ 0 = get_or-eq_default A 0 (omega arith) in rw e)

-- THE GREATEST NUMBER

module _ {A : Type 0} where
  fold_kept : (q : A → Bool) (h : A → ℕ) (b : ℕ) (xs : List A) → fold (λ a x. max a (h x)) b (filter q xs) ≡ fold (λ a x. max a (cond (q x) (h x) 0)) b xs
  fold_kept q h b [] = refl
  fold_kept q h b (x ∷ xs) = go (q x) (λ a. fold_kept q h a xs)
    where
      go : (t : Bool) → ((a : ℕ) → fold (λ a x. max a (h x)) a (filter q xs) ≡ fold (λ a x. max a (cond (q x) (h x) 0)) a xs)
          → fold (λ a x. max a (h x)) b (cond t (x ∷ filter q xs) (filter q xs)) ≡ fold (λ a x. max a (cond (q x) (h x) 0)) (max b (cond t (h x) 0)) xs
      go true f = f (max b (h x))
      go false f = let e : max b 0 ≡ b = omega arith in rw e (f b)

  fold_greatest : (h : A → ℕ) (xs : List A) (d : A) (n : ℕ) → n ≤ length xs → fold (λ a x. max a (h x)) 0 (take n xs) ≡ greatest n (λ k. h (get_or xs k d))
  unfolding greatest
  fold_greatest h xs d zero l = refl
  fold_greatest h xs d (suc n) l =
      let e : suc n ≡ n + 1 = omega arith in
      ap (λ m. fold (λ a x. max a (h x)) 0 (take m xs)) e ∙ ap (fold (λ a x. max a (h x)) 0) (take_more xs n d (omega arith))
      ∙ fold-append (λ a x. max a (h x)) 0 (take n xs) (get_or xs n d ∷ []) ∙ ap (λ a. max a (h (get_or xs n d))) (fold_greatest h xs d n (omega arith))

pub latest_sent : (M : Messages) → length M.slots ≡ capacity → (c : ℕ)
    → fold (λ a (m : Message). max a m.number.0) 0 (filter (λ (m : Message). eqb m.sender c) (take (min M.count capacity) M.slots)) ≡ latest M c
unfolding latest number_of message_in greatest
latest_sent M l c =
    fold_kept (λ (m : Message). eqb m.sender c) (λ m. m.number.0) 0 (take (min M.count capacity) M.slots)
    ∙ fold_greatest (λ (m : Message). cond (eqb m.sender c) m.number.0 0) M.slots no_message (min M.count capacity) (omega arith)
    ∙ clipped (λ n. greatest n (λ s. number_of c (get_or M.slots s no_message))) capacity
    (λ s h.
    let e : get_or M.slots s no_message ≡ no_message = get_or-eq_default M.slots no_message (omega arith) in
    rw e (none (eqb 0 c) _)) M.count
  where
    none : (t : Bool) (k : ℕ) → max k (cond t 0 0) ≡ k
    none true k = omega arith
    none false k = omega arith

-- THE READERS OF A LOG

pub none_sent_past : (C : List Controller) → length C ≡ seats → (n o k : ℕ)
    → list_all (λ (x : Controller). leb (get_or x.read o 0) k) (take n C) ≡ all n (λ j. leb (get_or (get_or C j no_controller).read o 0) k)
unfolding all
none_sent_past C l n o k =
    reads_all _ (λ j. leb (get_or (get_or C j no_controller).read o 0) k) (reads_take n (reads_list C no_controller seats l) refl) (λ k _. refl)
    ∙ clipped (λ n. all n (λ j. leb (get_or (get_or C j no_controller).read o 0) k)) seats
    (λ j h. let e : get_or C j no_controller ≡ no_controller = get_or-eq_default C no_controller (omega arith) in rw (e, le-leb 0 k (omega arith))) n

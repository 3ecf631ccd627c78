-- The registers by what was applied, in one pass over the messages: what a turn writes, and what the end gives. Assumes nothing.
use mathlib.Core.Path.{◌≡◌, refl, sym, ◌∙◌}
use mathlib.Core.Bool.{Bool, true, false, ◌&&◌, cond}
use mathlib.Core.Logic.{◌≢◌}
use mathlib.Core.List.{List}
use Prim.Native.Nat.{ℕ, suc, min, ◌<◌}
use native.Mathlib.Decide.{ℕ_discrete}
use native.Mathlib.Omega.{arith}
use lib.ListN.{length, get_or, set, replicate, length-set, length-replicate, get_or-replicate, get_or-eq_default}
use lib.Seq.{get_or-set_same, get_or-set_other}
use borrow.Author.Tests.{lt-ltb}
use Rattle.std.specs.Prelude.{Some, None}
use Rattle.std.proofs.lemmas.Bool.Decides.{nat_tests}
use Rattle.lists.proofs.Build.{tabulate_self}
use Rattle.model.specs.Tables.{capacity, register_count, yes?, no_register, flagged, first_of, message_in}
use Rattle.model.specs.Registers.{wins, writes, written, newest, register_of, registers}
use Rattle.model.specs.declared.Message.{Message}
use Rattle.model.specs.declared.Register.{Register}
use Rattle.model.proofs.Passes.{Turn, clipped}
use Rattle.totals.specs.Shown.{index_of}

-- THE REGISTER THAT A MESSAGE WRITES

written_at : (m : Message) (i : ℕ) → Some i ≡ index_of m.payload → writes (suc i) m ≡ true
unfolding index_of writes
written_at m i e = grind (arith, nat_tests)

written_other : (m : Message) (i j : ℕ) → Some j ≡ index_of m.payload → i ≢ j → writes (suc i) m ≡ false
unfolding index_of writes
written_other m i j e d = grind (arith, nat_tests)

written_none : (m : Message) (i : ℕ) → i < register_count → None ≡ index_of m.payload → writes (suc i) m ≡ false
unfolding index_of writes
written_none m i b e = grind (arith, nat_tests)

-- THE PASS

module _ (M : List Message) (A : List ℕ) where
  -- register r by the slots below k
  abbrev below : ℕ → ℕ → Register
  below k r = newest k M (flagged A) r

  hit : (s n : ℕ) (m : Message) (x r : ℕ) → Turn M A s n m x → x ≢ 0 → writes r m ≡ true → wins (written m) (below s r) ≡ below n r
  unfolding newest message_in
  hit s n m x r t h w =
      let f : yes? (get_or A s 0) ≡ true = rw (← t.element 0) (lt-ltb 0 x (omega (arith, h))) in
      rw (t.next, f, ← t.message, w) refl

  miss : (s n : ℕ) (m : Message) (x r : ℕ) → Turn M A s n m x → writes r m ≡ false → below s r ≡ below n r
  unfolding newest message_in
  miss s n m x r t w = rw (t.next, ← t.message, w) (go (yes? (get_or A s 0)))
    where
      go : (b : Bool) → below s r ≡ cond (b && false) (wins (written m) (below s r)) (below s r)
      go true = refl
      go false = refl

  pass : (s n : ℕ) (m : Message) (x r : ℕ) → Turn M A s n m x → x ≡ 0 → below s r ≡ below n r
  unfolding newest message_in
  pass s n m x r t h =
      let f : get_or A s 0 ≡ 0 = sym (t.element 0) ∙ h in
      rw (t.next, f) refl

  over : length A ≡ capacity → (k e r : ℕ) → e ≡ min k capacity → below e r ≡ below k r
  unfolding newest
  over l k e r h = rw h (clipped (λ j. below j r) capacity (λ j q. rw (get_or-eq_default A 0 {n = j} (omega arith)) refl) k)

  -- the registers by the slots below s
  pub record EachHeld (s : ℕ) (R : List Register) : Type 0 where
    pub long : length R ≡ register_count
    pub each : (i : ℕ) → i < register_count → get_or R i no_register ≡ below s (suc i)

  pub held_none : EachHeld 0 (replicate register_count no_register)
  unfolding newest
  held_none = record { long = length-replicate {A = Register} register_count no_register; each = λ i h. get_or-replicate {A = Register} register_count i no_register no_register h }

  pub held_on : (s n : ℕ) (m : Message) (x : ℕ) (R : List Register) → Turn M A s n m x → x ≡ 0 → EachHeld s R → EachHeld n R
  held_on s n m x R t h p = record { long = p.long; each = λ i b. p.each i b ∙ pass s n m x (suc i) t h }

  pub held_past : (s n : ℕ) (m : Message) (x : ℕ) (R : List Register) → Turn M A s n m x → None ≡ index_of m.payload → EachHeld s R → EachHeld n R
  held_past s n m x R t e p = record { long = p.long; each = λ i b. p.each i b ∙ miss s n m x (suc i) t (written_none m i b e) }

  pub held_more : (s n : ℕ) (m : Message) (x i : ℕ) (R S : List Register) (v : Register) → Turn M A s n m x → x ≢ 0 → EachHeld s R → i < register_count → Some i ≡ index_of m.payload
      → v ≡ wins (written m) (get_or R i no_register) → S ≡ set R i v → EachHeld n S
  held_more s n m x i R S v t h p k q e r = rw r (record { long = length-set R i v ∙ p.long; each = λ j b. one j b (ℕ_discrete j i) })
    where
      one : (j : ℕ) → j < register_count → Dec (j ≡ i) → get_or (set R i v) j no_register ≡ below n (suc j)
      one j b (yes a) = rw (a, get_or-set_same R i v no_register (omega (arith, p.long)), e, p.each i k) (hit s n m x (suc i) t h (written_at m i q))
      one j b (no d) = get_or-set_other R i j v no_register d ∙ p.each j b ∙ miss s n m x (suc j) t (written_other m j i q d)

  pub held_all : length A ≡ capacity → (k e : ℕ) (R : List Register) → e ≡ min k capacity → EachHeld e R → R ≡ registers (first_of k M) A
  unfolding registers register_of
  held_all l k e R h p = sym (tabulate_self R no_register register_count _ p.long (λ i b. sym (p.each i b ∙ over l k e (suc i) h)))

-- Line 15: what a turn keeps that gives each slot in the buffer to its end of the 64 bytes. Assumes nothing.
use mathlib.Core.Path.{◌≡◌, refl, sym, ap, ◌∙◌}
use mathlib.Core.Logic.{◌≢◌}
use mathlib.Core.Bool.{Bool, true, false, not, ◌&&◌}
use mathlib.Core.List.{List}
use Prim.Native.Nat.{ℕ, ◌+◌, ◌-◌, ◌≤◌, ◌<◌}
use native.Mathlib.Decide.{ℕ_discrete, dec_lt}
use native.Mathlib.Omega.{arith}
use borrow.Author.Tests.{lt-ltb, le-ltb, eq-eqb, ne_eqb}
use lib.ListN.{length, set}
use lib.Seq.{get_or-set_same, get_or-set_other}
use lib.Dec.{eqb, ltb}
use Rattle.lists.specs.Below.{tally}
use Rattle.model.specs.Tables.{capacity, scratch_size, in_buffer}
use Rattle.model.specs.Largest.{candidate}
use Rattle.model.specs.declared.Pending.{Pending}
use Rattle.delivery.specs.Apply.{Divided, front, back, times}
use Rattle.delivery.proofs.Times.{times_none, times_more, times_ext}

-- A STORE IN THE 64 BYTES

-- byte k is stored at the front, or as the kth from the back
pub stored-front : (m : List ℕ) (k x t : ℕ) → k < length m → times (front (set m k x)) (k + 1) t ≡ tally (eqb x t) (times (front m) k t)
stored-front m k x t h =
    times_more (front (set m k x)) k t
    ∙ ap (λ y. tally (eqb y t) (times (front (set m k x)) k t)) (get_or-set_same m k x 0 h)
    ∙ ap (tally (eqb x t)) (times_ext (front (set m k x)) (front m) k t (λ j l. get_or-set_other m k j x 0 (omega arith)))

pub stored_back : (m : List ℕ) (k x t : ℕ) → k < scratch_size → scratch_size ≤ length m
    → times (back (set m (scratch_size - (k + 1)) x)) (k + 1) t ≡ tally (eqb x t) (times (back m) k t)
stored_back m k x t h l =
    let p : scratch_size - 1 - k ≡ scratch_size - (k + 1) = omega arith in
    let b = back (set m (scratch_size - (k + 1)) x) in
    times_more b k t
    ∙ ap (λ y. tally (eqb y t) (times b k t)) (rw p (get_or-set_same m (scratch_size - (k + 1)) x 0 (omega arith)))
    ∙ ap (tally (eqb x t)) (times_ext b (back m) k t (λ j q. get_or-set_other m (scratch_size - (k + 1)) (scratch_size - 1 - j) x 0 (omega arith)))

-- THE TURN AT SLOT e, of the slots that pass a test

module _ (test : ℕ → Bool) (e t : ℕ) where
  other_below : t ≢ e → ltb t e ≡ ltb t (e + 1)
  other_below d = elim (dec_lt t e) [ yes l ↦ lt-ltb t e l ∙ sym (lt-ltb t (e + 1) (omega arith)) | no l ↦ le-ltb t e (omega arith) ∙ sym (le-ltb t (e + 1) (omega arith)) ]

  passed : test e ≡ true → tally (eqb e t) (tally (ltb t e && test t) 0) ≡ tally (ltb t (e + 1) && test t) 0
  passed q = go (ℕ_discrete t e)
    where
      go : Dec (t ≡ e) → tally (eqb e t) (tally (ltb t e && test t) 0) ≡ tally (ltb t (e + 1) && test t) 0
      go (yes p) = rw (p, eq-eqb e e refl, le-ltb e e (omega arith), lt-ltb e (e + 1) (omega arith), q)
      go (no d) = rw (ne_eqb e t (λ x. d (sym x)), other_below d)

  failed : test e ≡ false → tally (ltb t e && test t) 0 ≡ tally (ltb t (e + 1) && test t) 0
  failed q = go (ℕ_discrete t e)
    where
      go : Dec (t ≡ e) → tally (ltb t e && test t) 0 ≡ tally (ltb t (e + 1) && test t) 0
      go (yes p) = rw (p, le-ltb e e (omega arith), lt-ltb e (e + 1) (omega arith), q)
      go (no d) = rw (other_below d)

module _ (n : ℕ) (P : List Pending) where
  abbrev chosen : ℕ → Bool
  chosen t = in_buffer P t && candidate n P t

  abbrev unchosen : ℕ → Bool
  unchosen t = in_buffer P t && not (candidate n P t)

  pub divided_start : (m : List ℕ) → Divided n P 0 m 0 0
  divided_start m = record { few = omega arith; candidates = λ t. times_none (front m) t ∙ rw (le-ltb t 0 (omega arith)); others = λ t. times_none (back m) t ∙ rw (le-ltb t 0 (omega arith)) }

  module _ (e c o : ℕ) (m : List ℕ) (h : e < capacity) (l : scratch_size ≤ length m) (d : Divided n P e m c o) where
    -- it is, and goes to the end of the candidates or of the others
    pub divided_candidate : in_buffer P e ≡ true → candidate n P e ≡ true → Divided n P (e + 1) (set m c e) (c + 1) o
    divided_candidate q f = record {
      few = omega (arith, d.few);
      candidates = λ t. stored-front m c e t (omega (arith, d.few)) ∙ ap (tally (eqb e t)) (d.candidates t) ∙ passed chosen e t (rw (q, f));
      others = λ t.
          times_ext (back (set m c e)) (back m) o t (λ j k. get_or-set_other m c (scratch_size - 1 - j) e 0 (omega (arith, d.few)))
          ∙ d.others t ∙ failed unchosen e t (rw (q, f));
    }

    pub divided_other : in_buffer P e ≡ true → candidate n P e ≡ false → Divided n P (e + 1) (set m (scratch_size - (o + 1)) e) c (o + 1)
    divided_other q f = record {
      few = omega (arith, d.few);
      candidates = λ t.
          times_ext (front (set m (scratch_size - (o + 1)) e)) (front m) c t (λ j k. get_or-set_other m (scratch_size - (o + 1)) j e 0 (omega (arith, d.few)))
          ∙ d.candidates t ∙ failed chosen e t (rw (q, f));
      others = λ t. stored_back m o e t (omega (arith, d.few)) l ∙ ap (tally (eqb e t)) (d.others t) ∙ passed unchosen e t (rw (q, f));
    }

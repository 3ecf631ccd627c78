-- Names of the slots of a well-formed table: a slot is known by its name, an answer names exactly the slots of its set, and a log
-- read as names has the names of its slots. Assumes nothing.
use mathlib.Core.Path.{◌≡◌, refl, sym, ap, ap₂, ◌∙◌}
use mathlib.Core.Bool.{Bool, true, false, ◌&&◌, ◌||◌, cond}
use mathlib.Core.Logic.{◌≢◌}
use mathlib.Core.List.{List, [], ◌∷◌, ◌++◌}
use Prim.Native.Nat.{ℕ, zero, suc, ◌≤◌, ◌<◌}
use native.Mathlib.Omega.{arith}
use lib.ListN.{length, get_or, take}
use lib.Seq.{get_or-set_same, get_or-set_other}
use lib.Dec.{eqb, ltb}
use borrow.Author.Tests.{eqb-true, eq-eqb, ne_eqb, ltb-true, lt-ltb}
use Rattle.lists.specs.Below.{count}
use Rattle.lists.specs.Build.{tabulate}
use Rattle.lists.proofs.Tests.{and_left, and_right, both, refuted, bool_eq, cond_case}
use Rattle.lists.proofs.Below.{Found, count-found, count_pos, count_ext}
use Rattle.lists.proofs.Build.{length-tabulate, get_d_tabulate, tabulate_ext}
use Rattle.lists.proofs.Grow.{tabulate_last, tabulate-take, some_last}
use Rattle.model.specs.Tables.{capacity, message, slot_at, no_name, with_message, with_entry, with_stop, messages_of}
use Rattle.model.specs.Delivery.{Slots, has as member}
use Rattle.model.specs.Events.{name_of, insert, names_below, names_of}
use Rattle.model.specs.Sized.{SizedController}
use Rattle.model.specs.Facts.{in_log, GoodController, WellFormed}
use Rattle.model.specs.declared.Name.{Name}
use Rattle.model.specs.declared.Message.{Message}
use Rattle.model.specs.declared.Controller.{Controller}
use Rattle.model.specs.declared.Table.{Table}
use Rattle.invariant.proofs.Stores.{message_old}
use Rattle.consistency.specs.Entries.{same, has, Distinct}
use Rattle.consistency.proofs.Names.{same_true, same_self, same_sym, has-insert, distinct-insert, has-tabulate, distinct-tabulate}

abbrev pub name_at : Table → ℕ → Name
name_at t j = name_of (message t j)

-- THE NAMES OF A SET

module _ (t : Table) (S : Slots) where
  -- a slot of S that has the name m
  abbrev pub named_in : Name → ℕ → Bool
  named_in m j = member S j && same m (name_at t j)

  has-below : (m : Name) (k : ℕ) → has m (names_below k t.messages S) ≡ ltb 0 (count k (named_in m))
  unfolding has names_below count
  has-below m zero = refl
  has-below m (suc k) = go (member S k) (has-below m k) ∙ sym (some_last k (named_in m))
    where
      go : (b : Bool) → has m (names_below k t.messages S) ≡ ltb 0 (count k (named_in m))
          → has m (cond b (insert (name_at t k) (names_below k t.messages S)) (names_below k t.messages S)) ≡ ((b && same m (name_at t k)) || ltb 0 (count k (named_in m)))
      go true r = has-insert m (name_at t k) (names_below k t.messages S) ∙ ap (λ b. same m (name_at t k) || b) r
      go false r = r

  pub names_at : (m : Name) → has m (names_of (messages_of t) S) ≡ true → Found t.count (named_in m)
  unfolding names_of
  names_at m e = count-found t.count (named_in m) (ltb-true 0 _ (sym (has-below m t.count) ∙ e))

module _ (t : Table) (w : WellFormed t) where
  -- one name, one slot
  pub same_slot : (i j : ℕ) → i < t.count → j < t.count → same (name_at t i) (name_at t j) ≡ eqb i j
  same_slot i j hi hj =
      bool_eq _ _
      (λ e. let q = same_true (name_at t i) (name_at t j) e in
      eq-eqb i j (w.names i j hi hj (ap (λ (m : Name). m.sender) q) (ap (λ (m : Name). m.number.0) q)))
      (λ e. rw (eqb-true i j e) (same_self (name_at t j)))

  pub slot_of : (i j : ℕ) → i < t.count → j < t.count → same (name_at t i) (name_at t j) ≡ true → i ≡ j
  slot_of i j hi hj e = eqb-true i j (sym (same_slot i j hi hj) ∙ e)

  pub slots_differ : (i j : ℕ) → i < t.count → j < t.count → i ≢ j → same (name_at t i) (name_at t j) ≡ false
  slots_differ i j hi hj d = same_slot i j hi hj ∙ ne_eqb i j d

  module _ (S : Slots) where
    -- an answer names exactly the slots of its set
    pub has-names : (j : ℕ) → j < t.count → has (name_at t j) (names_of (messages_of t) S) ≡ member S j
    unfolding names_of
    has-names j h = bool_eq _ _ (λ e. back (names_at t S (name_at t j) e))
        (λ e. has-below t S (name_at t j) t.count ∙ lt-ltb 0 _ (count_pos t.count (named_in t S (name_at t j)) j h (both e (same_self (name_at t j)))))
      where
        back : Found t.count (named_in t S (name_at t j)) → member S j ≡ true
        back o =
            let e = slot_of j o.which h o.below (and_right (member S o.which) _ o.passes) in
            rw e (and_left _ _ o.passes)

    distinct-below : (k : ℕ) → k ≤ t.count → Distinct (names_below k t.messages S)
    unfolding Distinct names_below
    distinct-below zero h = tt
    distinct-below (suc k) h =
        let d = distinct-below k (omega arith) in
        cond_case Distinct (member S k) (insert (name_at t k) (names_below k t.messages S)) (names_below k t.messages S)
        (λ _. distinct-insert (name_at t k) (names_below k t.messages S) (refuted (has (name_at t k) (names_below k t.messages S)) old) d) (λ _. d)
      where
        old : has (name_at t k) (names_below k t.messages S) ≡ true → ⊥
        old e =
            let o = count-found k (named_in t S (name_at t k)) (ltb-true 0 _ (sym (has-below t S (name_at t k) k) ∙ e)) in
            omega (arith, o.below, slot_of k o.which (omega arith) (omega (arith, o.below)) (and_right (member S o.which) _ o.passes))

    pub distinct-names : Distinct (names_of (messages_of t) S)
    unfolding names_of
    distinct-names = distinct-below t.count (omega arith)

-- LOGS AS NAMES

unfoldable pub log_names : Table → Controller → List Name
log_names t x = tabulate x.length (λ k. name_at t (slot_at x k))

pub length_log : (t : Table) (x : Controller) → length (log_names t x) ≡ x.length
unfolding log_names
length_log t x = length-tabulate x.length _

pub log_at : (t : Table) (x : Controller) (k : ℕ) → k < x.length → get_or (log_names t x) k no_name ≡ name_at t (slot_at x k)
unfolding log_names
log_at t x k h = get_d_tabulate x.length _ no_name k h

pub log_stopped : (t : Table) (x : Controller) (k : ℕ) → k ≤ x.length → log_names t (with_stop x k) ≡ take k (log_names t x)
unfolding log_names
log_stopped t x k h = sym (tabulate-take _ k x.length h)

-- one entry more
pub log_entered : (t : Table) (x : Controller) (s : ℕ) → SizedController x → x.length < capacity
    → log_names t (with_entry x s) ≡ log_names t x ++ (name_at t s ∷ [])
unfolding log_names
log_entered t x s z h =
    tabulate_last (λ k. name_at t (slot_at (with_entry x s) k)) x.length
    ∙ ap₂ (λ (l : List Name) (m : Name). l ++ (m ∷ []))
    (tabulate_ext x.length _ _ no_name (λ k l. ap (name_at t) (get_or-set_other x.log x.length k s 0 (omega arith))))
    (ap (name_at t) (get_or-set_same x.log x.length s 0 (omega (arith, z.log))))

-- in a longer run
pub log_added : (t : Table) (m : Message) (i : ℕ) (x : Controller) → GoodController t i x → log_names (with_message t m) x ≡ log_names t x
unfolding log_names
log_added t m i x g = tabulate_ext x.length _ _ no_name (λ k h. ap (λ (y : Message). name_of y) (message_old t m (slot_at x k) (g.log_run k h)))

module _ (t : Table) (w : WellFormed t) where
  pub has_log : (x : Controller) → ((k : ℕ) → k < x.length → slot_at x k < t.count) → (j : ℕ) → j < t.count → has (name_at t j) (log_names t x) ≡ in_log x j
  unfolding log_names in_log
  has_log x run j h =
      has-tabulate _ (name_at t j) x.length
      ∙ ap (ltb 0) (count_ext x.length _ _ (λ k l. same_sym (name_at t j) _ ∙ same_slot t w (slot_at x k) j (run k l) h))

  pub distinct_log : (i : ℕ) (x : Controller) → GoodController t i x → Distinct (log_names t x)
  unfolding log_names
  distinct_log i x g = distinct-tabulate _ x.length (λ j k h l.
      slots_differ t w (slot_at x j) (slot_at x k) (g.log_run j h) (g.log_run k (omega arith)) (λ e. omega (arith, g.log_once j k h (omega arith) e)))

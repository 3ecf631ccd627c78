-- The clauses of one controller, from what was read of it and of the other controllers' logs; and the whole test, ranges
-- first. Assumes nothing.
use mathlib.Core.Path.{◌≡◌, refl, sym, ap, ap₂, ◌∙◌}
use mathlib.Core.Bool.{Bool, true, false, not, ◌&&◌, ◌||◌, and_assoc, and_comm, beq}
use mathlib.Core.List.{List}
use Prim.Native.Nat.{ℕ, zero, suc, ◌+◌, ◌≤◌, ◌<◌}
use native.Mathlib.Numerals.{add-one}
use native.Mathlib.Omega.{arith}
use lib.ListN.{length, get_or, take, replicate, length-take}
use lib.Dec.{eqb, leb, ltb}
use borrow.Author.Tests.{ltb-true, leb-true, not-true, not-false}
use Rattle.std.proofs.lemmas.List.{get_or-take}
use Rattle.lists.specs.Below.{all, distinct}
use Rattle.lists.specs.Build.{tabulate}
use Rattle.lists.proofs.Tests.{and_left, and_right, both, bool_eq}
use Rattle.lists.proofs.Below.{all-at, all_of, greatest_ext}
use Rattle.lists.proofs.Build.{get_d_tabulate}
use Rattle.model.specs.Tables.{none, no_message, no_controller, at, yes?, held, applied, highest, controller_in, first_of, message_in, messages_of, capacity, seats, slot_at}
use Rattle.model.specs.Facts.{in_log, greatest_applied}
use Rattle.model.specs.Fair.{known}
use Rattle.model.specs.WellFormed.{in_range, kept_write, same_name, same_stamp, good_message, good_messages, good_writes, good_log, good_places, good_marks, good_buffer, good_highest, good_running, good_controller, well_formed}
use Rattle.model.specs.declared.Message.{Message}
use Rattle.model.specs.declared.Controller.{Controller}
use Rattle.model.specs.declared.Table.{Table}
use Rattle.validity.specs.Parts.{good_alone, keeps_own, good_with}
use Rattle.validity.specs.Flags.{own_test, slot_test, good_slot}
use Rattle.validity.specs.Reads.{Wrote, each_write, good_held}
use Rattle.validity.proofs.SlotTests.{slot, slots_are}
use Rattle.validity.proofs.DistinctNames.{all_named}
use Rattle.validity.proofs.WriteStamps.{kept_are}
use Rattle.validity.proofs.GreatestNumbers.{long_enough}

all_ext : (n : ℕ) (p q : ℕ → Bool) → ((k : ℕ) → k < n → p k ≡ q k) → all n p ≡ all n q
unfolding all
all_ext zero p q f = refl
all_ext (suc n) p q f = ap₂ ◌&&◌ (f n (omega arith)) (all_ext n p q (λ k h. f k (omega arith)))

distinct_ext : (n : ℕ) (p q : ℕ → ℕ → Bool) → ((i j : ℕ) → i < n → j < i → p i j ≡ q i j) → distinct n p ≡ distinct n q
unfolding distinct
distinct_ext n p q f = all_ext n _ _ (λ i h. all_ext i _ _ (λ j l. ap not (f i j h l)))

all_both : (n : ℕ) (p q : ℕ → Bool) → all n (λ k. p k && q k) ≡ (all n p && all n q)
all_both n p q =
    bool_eq _ _ (λ e. both (all_of n p (λ k h. and_left _ _ (all-at n _ e k h))) (all_of n q (λ k h. and_right (p k) _ (all-at n _ e k h))))
    (λ e. all_of n _ (λ k h. both (all-at n p (and_left _ _ e) k h) (all-at n q (and_right (all n p) _ e) k h)))

-- ONE CONTROLLER

module _ (n k : ℕ) (M : List Message) (sent end : ℕ) (W : List ℕ) (i : ℕ) (c : Controller) where
  abbrev asked : Bool
  asked = good_alone n (first_of k M) sent c && keeps_own end W i c

  pub bad_log : good_log k c ≡ false → false ≡ asked
  unfolding good_alone
  bad_log e = rw e

  module _ (few : n ≤ seats) (fits : k ≤ capacity) (good : good_log k c ≡ true) where
    in_run : (j : ℕ) → j < c.length → slot_at c j < k
    unfolding good_log
    in_run j h = ltb-true (slot_at c j) k (all-at c.length _ (and_left _ _ (and_right (leb c.length capacity) _ good)) j h)

    slots_read : (H L : List Bool) → H ≡ tabulate capacity (λ s. held c s) → L ≡ tabulate capacity (in_log c)
        → all capacity (slot_test k (yes? c.running) H c.applied L) ≡ all capacity (slot n k c fits in_run)
    slots_read H L h l = all_ext capacity _ _ (λ s b.
        ap₂ (λ x y. good_slot (ltb s k) (yes? c.running) x (applied c s) y)
        (rw h (get_d_tabulate capacity (λ s. held c s) false s b)) (rw l (get_d_tabulate capacity (in_log c) false s b)))

    highest_read : (G : List ℕ) → G ≡ tabulate seats (λ x. greatest_applied (first_of k M) c.applied (suc x))
        → all n (λ x. eqb (get_or c.highest x none).0 (get_or G x 0)) ≡ good_highest n (first_of k M) c
    unfolding good_highest
    highest_read G g = all_ext n _ _ (λ x h.
        ap₂ eqb (ap (λ j. (get_or c.highest j none).0) (omega arith))
        (rw g (get_d_tabulate seats (λ x. greatest_applied (first_of k M) c.applied (suc x)) 0 x (omega arith))))

    regroup : (m b h r e l : Bool) → ((m && (b && (r || e))) && (h && (r || l))) ≡ (m && (b && (h && (r || (e && l)))))
    regroup false b h r e l = refl
    regroup true false h r e l = refl
    regroup true true h true e l = refl
    regroup true true true false e l = refl
    regroup true true false false true l = refl
    regroup true true false false false l = refl

    logged_alone :
        (good_marks n k c && (good_buffer k c && (good_highest n (first_of k M) c
        && (not (yes? c.running) || (all k (λ s. beq (in_log c s) (held c s || applied c s)) && leb sent c.length)))))
        ≡ good_alone n (first_of k M) sent c
    unfolding good_alone
    logged_alone = rw good

    joined_alone : (entries slots highest : Bool) → entries ≡ good_held n c.pending → slots ≡ all capacity (slot n k c fits in_run) → highest ≡ good_highest n (first_of k M) c
        → ((entries && slots) && (highest && (not (yes? c.running) || leb sent c.length))) ≡ good_alone n (first_of k M) sent c
    unfolding good_held
    joined_alone entries slots highest b s h =
        ap₂ (λ x y. x && (y && (not (yes? c.running) || leb sent c.length))) (ap₂ ◌&&◌ b s ∙ slots_are n k c fits in_run) h
        ∙ regroup (good_marks n k c) (good_buffer k c) (good_highest n (first_of k M) c) (not (yes? c.running)) _ _ ∙ logged_alone

    pub bad_buffer : good_held n c.pending ≡ false → false ≡ asked
    bad_buffer e = ap (λ b. b && keeps_own end W i c) (joined_alone false _ _ (sym e) refl refl)

    module _ (H L : List Bool) (h : H ≡ tabulate capacity (λ s. held c s)) (l : L ≡ tabulate capacity (in_log c))
        (G : List ℕ) (g : G ≡ tabulate seats (λ x. greatest_applied (first_of k M) c.applied (suc x))) where
      own_read : end ≤ capacity → all end (own_test W i (yes? c.running) H c.applied) ≡ keeps_own end W i c
      unfolding keeps_own
      own_read b = all_ext end _ _ (λ s q. rw (h, get_d_tabulate capacity (λ s. held c s) false s (omega arith)) refl)

      pub asked_is : (running slots highest kept : Bool) → good_held n c.pending ≡ true → running ≡ yes? c.running
          → slots ≡ all capacity (slot_test k running H c.applied L)
          → highest ≡ all n (λ x. eqb (get_or c.highest x none).0 (get_or G x 0))
          → end ≤ capacity → kept ≡ all end (own_test W i running H c.applied)
          → ((slots && (highest && (not running || leb sent c.length))) && kept) ≡ asked
      asked_is running slots highest kept b r s e q o =
          rw r (ap₂ ◌&&◌ (joined_alone true slots highest (sym b) (rw r at s ∙ slots_read H L h l) (e ∙ highest_read G g)) (rw r at o ∙ own_read q))

-- ITS READ POSITIONS AND WHAT IT SENT

-- controller i + 1 stands at i
at_next : (C : List Controller) (i : ℕ) → get_or C i no_controller ≡ controller_in C (suc i)
unfolding controller_in
at_next C i = ap (λ j. get_or C j no_controller) (omega arith)

pub reached : (n : ℕ) (C : List Controller) (i : ℕ) → i < length (take n C) → i < n
reached n C i h = omega (arith, length-take n C)

module _ (n k : ℕ) (M : List Message) (C : List Controller) (end : ℕ) (W : List ℕ) (few : n ≤ seats) (fits : k ≤ capacity) where
  swap : (p l r : Bool) → (p && (l && r)) ≡ (l && (p && r))
  swap true l r = refl
  swap false true r = refl
  swap false false r = refl

  joined : (i : ℕ) (c : Controller)
      → (good_places n C c && good_alone n (first_of k M) (greatest_applied (first_of k M) (replicate capacity 1) i) c) ≡ good_controller n (first_of k M) C i c
  unfolding good_alone good_controller good_running message_in
  joined i c = rw (long_enough k M i c.length fits) (swap (good_places n C c) (good_log k c) _)

  -- the controller that stands at i among the first n, by the greatest numbers sent
  pub controller_is : (i : ℕ) (G : List ℕ) (places alone : Bool) → let c = get_or (take n C) i no_controller in
      i < length (take n C) → G ≡ tabulate seats (λ x. greatest_applied (first_of k M) (replicate capacity 1) (suc x))
      → places ≡ good_places n C c → alone ≡ (good_alone n (first_of k M) (get_or G i 0) c && keeps_own end W (i + 1) c)
      → (places && alone) ≡ good_with n (first_of k M) C end W (suc i)
  unfolding good_with
  controller_is i G places alone h g p a =
      let c = get_or (take n C) i no_controller in
      let own = keeps_own end W (suc i) c in
      let l : i < n = reached n C i h in
      let sent : get_or G i 0 ≡ greatest_applied (first_of k M) (replicate capacity 1) (suc i) = rw g (get_d_tabulate seats _ 0 i (omega arith)) in
      rw (p, a, sent, add-one i)
      (sym (and_assoc (good_places n C c) _ own) ∙ and_comm _ own
      ∙ ap (λ x. own && x) (joined (suc i) c)
      ∙ ap (λ d. keeps_own end W (suc i) d && good_controller n (first_of k M) C (suc i) d) (get_or-take n C i no_controller l ∙ at_next C i))

-- THE WHOLE TEST

module _ (t : Table) where
  -- the table without the messages past those that were sent, which the test does not read
  abbrev sent : List Message
  sent = take t.count t.messages

  abbrev cut : Table
  cut = record { version = t.version; n = t.n; count = t.count; messages = sent; controllers = t.controllers }

  read_cut : (s : ℕ) → s < t.count → message_in sent s ≡ message_in t.messages s
  unfolding message_in
  read_cut s h = get_or-take t.count t.messages s no_message h

  messages_cut : good_messages t.version t.n (messages_of cut) ≡ good_messages t.version t.n (messages_of t)
  unfolding good_messages
  messages_cut =
      ap₂ ◌&&◌ (distinct_ext t.count _ _ (λ i j h l. ap₂ same_name (read_cut i h) (read_cut j (omega arith)))) (all_ext t.count _ _ (λ s h. ap (good_message t.version t.n t.count) (read_cut s h)))

  writes_cut : good_writes cut ≡ good_writes t
  unfolding good_writes kept_write
  writes_cut = ap₂ ◌&&◌ (distinct_ext t.count _ _ (λ i j h l. ap₂ same_stamp (read_cut i h) (read_cut j (omega arith)))) (all_ext t.count _ _ (λ s h. rw (read_cut s h) refl))

  highest_cut : (c : Controller) → good_highest t.n (messages_of cut) c ≡ good_highest t.n (messages_of t) c
  unfolding good_highest greatest_applied
  highest_cut c = all_ext t.n _ _ (λ x h. ap (eqb (highest c (suc x))) (greatest_ext t.count _ _ (λ s l. rw (read_cut s l) refl)))

  running_cut : (i : ℕ) (c : Controller) → good_running (messages_of cut) i c ≡ good_running (messages_of t) i c
  unfolding good_running
  running_cut i c =
      ap (λ b. not (yes? c.running) || (all t.count (λ s. beq (in_log c s) (held c s || applied c s)) && b)) (all_ext t.count _ _ (λ s l. rw (read_cut s l) refl))

  controller_cut : (i : ℕ) → good_controller t.n (messages_of cut) t.controllers i (at t i) ≡ good_controller t.n (messages_of t) t.controllers i (at t i)
  unfolding good_controller
  controller_cut i = rw (highest_cut (at t i), running_cut i (at t i)) refl

  well_formed-cut : well_formed cut ≡ well_formed t
  unfolding well_formed in_range
  well_formed-cut =
      rw (messages_cut, writes_cut, all_ext t.n (λ i. good_controller t.n (messages_of cut) t.controllers (suc i) (at t (suc i))) (λ i. good_controller t.n (messages_of t) t.controllers (suc i) (at t (suc i))) (λ i h. controller_cut (suc i))) refl

  abbrev pub in_bounds : Bool
  in_bounds = known t.version && (ltb 0 t.n && (leb t.n seats && leb t.count capacity))

  pub out_of_range : not in_bounds ≡ true → false ≡ well_formed t
  unfolding well_formed in_range
  out_of_range e = rw (not-true in_bounds e)

  module _ (e : not in_bounds ≡ false) where
    sizes : (leb t.n seats && leb t.count capacity) ≡ true
    sizes = and_right (ltb 0 t.n) _ (and_right (known t.version) _ (not-false in_bounds e))

    pub few : t.n ≤ seats
    few = leb-true t.n seats (and_left _ _ sizes)

    pub fits : t.count ≤ capacity
    fits = leb-true t.count capacity (and_right (leb t.n seats) _ sizes)

    -- what is read of the k messages that were sent
    module _ (k : ℕ) (size : k ≡ t.count) where
      pub bad_messages : good_messages t.version t.n (first_of k sent) ≡ false → false ≡ well_formed t
      unfolding well_formed in_range
      bad_messages m = rw (← well_formed-cut, not-false in_bounds e, rw size at m)

      module _ (m : good_messages t.version t.n (first_of k sent) ≡ true) where
        pub bad_writes : each_write k sent ≡ false → false ≡ well_formed t
        unfolding well_formed in_range good_writes message_in each_write
        bad_writes g = rw (← well_formed-cut, not-false in_bounds e, rw size at m, rw size at g)

        pub tested : (controllers : Bool) (end : ℕ) (W : List ℕ) → each_write k sent ≡ true → Wrote k sent end W
            → controllers ≡ all t.n (λ i. good_with t.n (first_of k sent) t.controllers end W (suc i)) → controllers ≡ well_formed t
        unfolding well_formed in_range good_writes good_with message_in each_write
        tested controllers end W g w c =
            let kept = kept_are cut end W fits (rw size at w) (all_named _ _ _ _ (rw size at m)) in
            rw (← well_formed-cut, not-false in_bounds e, rw size at m, rw size at g, ← kept) (rw size at c ∙ all_both t.n _ _)

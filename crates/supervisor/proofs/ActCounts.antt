-- The parts of an act count: what the code computes of each, and how great it can be. Assumes nothing.
use mathlib.Core.Path.{◌≡◌, refl}
use mathlib.Core.Bool.{Bool, true, false, not, cond}
use mathlib.Core.List.{List}
use Prim.Native.Nat.{ℕ, suc, ◌+◌, ◌-◌, ◌*◌, min, ◌≤◌}
use native.Mathlib.Omega.{arith}
use lib.Dec.{eqb}
use mir.Val.{bool_byte}
use lib.ListN.{length, get_or, take}
use Rattle.std.specs.List.{filter, sum}
use Rattle.lists.proofs.Below.{count_bound, sum_bound}
use Rattle.lists.proofs.Chains.{reads_list, reads_take, reads_filtered, reads_sum}
use Rattle.model.specs.Tables.{Messages, seats, capacity, yes?, no_message, Among, at, message_in, place}
use Rattle.model.specs.Facts.{WellFormed}
use Rattle.model.specs.declared.Message.{Message}
use Rattle.model.specs.declared.Controller.{Controller}
use Rattle.model.specs.declared.Table.{Table}
use Rattle.previews.specs.Previews.{sends_by, reads_by, act_count}
use Rattle.supervisor.specs.Supervised.{Bounded}

-- no read position of a well-formed table is beyond the longest log
pub reads_bounded : (t : Table) → WellFormed t → (c : ℕ) → Among t.n c → Bounded t.n (at t c).read
reads_bounded t w c a o h =
    let b : Among t.n (suc o) = record { low = omega arith; high = omega (arith, h) } in
    let z : suc o - 1 ≡ o = omega arith in
    let l : place (at t c) (suc o) ≤ capacity = omega (arith, (w.controllers c a).places (suc o) b, (w.controllers (suc o) b).log_room) in
    rw z at l

-- what was sent
abbrev pub by : ℕ → Message → Bool
by c m = eqb m.sender c

module _ (M : Messages) (c : ℕ) (h : M.count ≤ capacity) where
  pub sends_filtered : length M.slots ≡ capacity → length (filter (by c) (take (min M.count capacity) M.slots)) ≡ sends_by M c
  unfolding sends_by message_in
  sends_filtered l =
      reads_filtered (by c) (λ s. eqb (get_or M.slots s no_message).sender c) (reads_take (min M.count capacity) (reads_list M.slots no_message capacity l) (omega arith)) (λ k _. refl)

  sends_few : sends_by M c ≤ capacity
  unfolding sends_by
  sends_few = omega (arith, h, count_bound M.count (λ s. eqb (message_in M.slots s).sender c))

-- what was read
module _ (n : ℕ) (R : List ℕ) (h : n ≤ seats) where
  pub read_sum : length R ≡ seats → sum (take n R) ≡ reads_by n R
  unfolding reads_by
  read_sum l = reads_sum (λ x. x) (λ o. get_or R o 0) (reads_take n (reads_list R 0 seats l) (omega arith)) (λ k _. refl)

  pub reads_few : Bounded n R → reads_by n R ≤ seats * capacity
  unfolding reads_by
  reads_few b = omega (arith, h, sum_bound n (λ o. get_or R o 0) capacity b)

pub bit_few : (v : Bool) → bool_byte v ≤ 1
bit_few true = omega arith
bit_few false = omega arith

-- the parts a and b together, and with a stop, where r is whether the controller x runs
module _ (n : ℕ) (M : Messages) (x : Controller) (c a b : ℕ) (ea : a ≡ sends_by M c) (eb : b ≡ reads_by n x.read) where
  pub acts_few : (n ≤ seats) × (M.count ≤ capacity) × Bounded n x.read → a + b ≤ capacity + seats * capacity
  acts_few h = omega (arith, ea, eb, sends_few M c h.1, reads_few n x.read h.0 h.2)

  module _ (r : Bool) (er : r ≡ yes? x.running) where
    stop : bool_byte (not r) ≡ cond (yes? x.running) 0 1
    stop = rw (← er) (go r)
      where
        go : (v : Bool) → bool_byte (not v) ≡ cond v 0 1
        go true = refl
        go false = refl

    pub acts_sum : a + b + bool_byte (not r) ≡ act_count n M x c
    unfolding act_count
    acts_sum = rw (ea, eb, stop) (omega arith)

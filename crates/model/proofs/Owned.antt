-- What owning a controller or a table tells of its arrays: they have their types' lengths. Assumes nothing.
use mathlib.Core.Path.{◌≡◌}
use mathlib.Core.List.{List, [], ◌∷◌}
use Prim.Native.Nat.{ℕ, zero, suc, ◌<◌}
use native.Mathlib.Nat.{not-suc-le-zero, le_of_suc-le-suc}
use native.Mathlib.Omega.{arith}
use lib.ListN.{length, get_or}
use mir.Val.{Val}
use denote.Shadow.{shadow}
use denote.Laws.{Is}
use denote.Array.{Array, each}
use denote.RattleType.{RattleType}
use denote.Builtin.{u8, usize}
use Rattle.model.specs.Tables.{seats, capacity, no_pending, no_controller}
use Rattle.model.specs.Sized.{Sized, SizedController}
use Rattle.model.specs.declared.Answer.{Answer}
use Rattle.model.specs.declared.Pending.{Pending}
use Rattle.model.specs.declared.Controller.{Controller}
use Rattle.model.specs.declared.Table.{Table}
use Rattle.model.specs.contracts.ForwardNumber as forward_number
use Rattle.model.specs.contracts.MessageNumber as message_number
use Rattle.model.specs.contracts.Message as message
use Rattle.model.specs.contracts.Name as name
use Rattle.model.specs.contracts.Answer as answer
use Rattle.model.specs.contracts.Pending as pending
use Rattle.model.specs.contracts.Controller as controller
use Rattle.model.specs.contracts.Table as table

-- ARRAYS

module _ (R : RattleType) (n : ℕ) (xs : List R.Denot) (vs : List Val) (owned : Is (Array R n) xs vs) where
  pub array_length : length xs ≡ n
  array_length = owned.1.0.1

  -- what owning an element tells is told of each
  pub array_each : (P : R.Denot → Type 0) → ((x : R.Denot) (us : List Val) → Is R x us → P x)
      → (d : R.Denot) (i : ℕ) → i < n → P (get_or xs i d)
  array_each P f d i h = go xs owned.0 owned.1.1 i (omega (arith, array_length))
    where
      go : (ys : List R.Denot) (us : List Val) → shadow (each R.Denot R.own_val ys us)
          → (i : ℕ) → i < length ys → P (get_or ys i d)
      go [] us e i h = absurd (not-suc-le-zero h)
      go (y ∷ ys) [] e i h = absurd e
      go (y ∷ ys) (u ∷ us) e zero h = f y (u ∷ []) e.0
      go (y ∷ ys) (u ∷ us) e (suc i) h = go ys us e.1 i (le_of_suc-le-suc h)

-- THE ANSWER

pub answer_sized : (a : Answer) (vs : List Val) → Is answer.the_row a vs → length a.names ≡ capacity
answer_sized a vs g = array_length name.the_row capacity a.names _ g.1.1.1.1.1.1.0

-- THE TABLE

pending_sized : (p : Pending) (vs : List Val) → Is pending.the_row p vs → length p.marks ≡ seats
pending_sized p vs g = array_length forward_number.the_row seats p.marks _ g.1.1.1.0

pub controller_sized : (c : Controller) (vs : List Val) → Is controller.the_row c vs → SizedController c
controller_sized c vs g =
    -- what is told of a field and of the fields after it
    let log = g.1.1.1 in
    let read = log.1 in
    let buffer = read.1 in
    let applied = buffer.1 in
    let highest = applied.1 in
    record {
      log = array_length u8 capacity c.log _ log.0;
      read = array_length usize seats c.read _ read.0;
      pending = array_length pending.the_row capacity c.pending _ buffer.0;
      marks = array_each pending.the_row capacity c.pending _ buffer.0 (λ p. length p.marks ≡ seats) pending_sized no_pending;
      applied = array_length u8 capacity c.applied _ applied.0;
      highest = array_length message_number.the_row seats c.highest _ highest.0;
    }

pub table_sized : (t : Table) (vs : List Val) → Is table.the_row t vs → Sized t
table_sized t vs g =
    let messages = g.1.1.1.1.1 in
    let controllers = messages.1 in
    record {
      messages = array_length message.the_row capacity t.messages _ messages.0;
      controllers = array_length controller.the_row seats t.controllers _ controllers.0;
      each = array_each controller.the_row seats t.controllers _ controllers.0 SizedController controller_sized no_controller;
    }

-- What the private functions answer that add up what a panel shows.
use Rattle.std.specs.Prelude.{◌&&◌, cond, ℕ, ◌-◌, ◌*◌, ◌≤◌, Option, Some, None, eqb, leb, ltb}
use Rattle.model.specs.Tables.{capacity, register_count, write_kind}
use Rattle.model.specs.Events.{both_of}
use Rattle.model.specs.declared.Payload.{Payload}
use Rattle.model.specs.declared.Sums.{Sums}

-- the index of the register that a message writes, if it writes one
unfoldable pub index_of : Payload → Option ℕ
index_of p = cond (eqb p.kind write_kind && (ltb 0 p.reg && leb p.reg register_count)) (Some (p.reg - 1)) None

-- a message's amount, part by part
abbrev pub amount_of : Payload → Sums
amount_of p = both_of (λ w. w p)

-- the largest amount of 16 bits, and the sum of as many as there are messages
abbrev pub largest_amount : ℕ
largest_amount = 65535

abbrev pub largest_sum : ℕ
largest_sum = capacity * largest_amount

-- each sum is at most `most`
pub record AtMost (most : ℕ) (z : Sums) : Type 0 where
  pub added : z.added ≤ most
  pub withdrawn : z.withdrawn ≤ most

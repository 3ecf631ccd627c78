-- `read_log` reads a log once: an entry outside the run, or one that was there before, ends the reading.
use Rattle.std.proofs.Common.{◌≡◌, ℕ, ◌<◌, List, length, get_or, take, arith}
use Rattle.std.proofs.Math.ListN.{length-take}
use Rattle.std.proofs.lemmas.List.{get_or-take}
use Rattle.validity.proofs.LogEntries.{nothing_read, long_log, slot_outside, slot_read, slot_twice, all_entries}
use Rattle.validity.proofs.read_log.Goals as goal
use Rattle.validity.proofs.read_log.Goals.{then-run-slot-via-then-run-slot, then-run-slot-via-else-run-slot+then-logged-slot}

-- an entry that is read is one of the first n of the log
before : (n : ℕ) (L : List ℕ) (j : ℕ) → j < length (take n L) → j < n
before n L j h = omega (arith, length-take n L)

entry : (n : ℕ) (L : List ℕ) (j : ℕ) → j < length (take n L) → get_or (take n L) j 0 ≡ get_or L j 0
entry n L j h = get_or-take n L j 0 (before n L j h)

pub returns-then-c-gt-MESSAGES : goal.returns-then-c-gt-MESSAGES
returns-then-c-gt-MESSAGES c = long_log _ _ c.if-c-gt-MESSAGES.true

pub loop-entry-init : goal.loop-entry-init
loop-entry-init c = nothing_read _ _

pub returns-then-run-slot : goal.returns-then-run-slot
returns-then-run-slot c =
    let l = before _ _ _ c.loop-entry-test.true in
    let e = entry _ _ _ c.loop-entry-test.true in
    elim c.then-run-slot.branch [
      | then-run-slot-via-then-run-slot w ↦ slot_outside _ _ _ l (rw e at w.if-run-slot.true)
      | then-run-slot-via-else-run-slot+then-logged-slot w ↦
          slot_twice _ _ c.args.run.fits _ _ c.loop-entry.invariant l (rw e at w.if-run-slot.false) (rw e at w.if-logged-slot.true)
    ]

pub loop-entry-preserved : goal.loop-entry-preserved
loop-entry-preserved c =
    let e = entry _ _ _ c.loop-entry-test.true in
    rw e (slot_read _ _ c.args.run.fits _ _ c.loop-entry.invariant (rw e at c.if-run-slot.false) (rw e at c.if-logged-slot.false))

pub returns : goal.returns
returns c =
    all_entries _ _ c.args.run.fits _ _ c.loop-entry.invariant c.if-c-gt-MESSAGES.false (omega (arith, length-take c.args.c.now.length c.args.c.now.log))

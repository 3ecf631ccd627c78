-- What may be said: the version of a run file, the name of a controller, and a message's amount, class, register and date.
-- Questions 2, 8, 9, 17 and 19 ask for these, and question 4 asks for them in a table.
use Rattle.std.specs.Prelude.{ℕ, Bool, ◌&&◌, ◌||◌, cond, eqb, leb, ltb}
use Rattle.model.specs.Tables.{last_class, register_count, report_kind, sync_kind, write_kind}
use Rattle.model.specs.declared.Payload.{Payload}
use Rattle.model.specs.declared.Message.{Message}

-- a version of run files
unfoldable pub known : ℕ → Bool
known v = eqb v 1 || eqb v 2

-- c is one of n controllers
unfoldable pub named : ℕ → ℕ → Bool
named n c = ltb 0 c && leb c n

-- A report's amount is from -360 to 360 and not 0; a sync and a write have none.
abbrev pub most_eggs : ℕ
most_eggs = 360

unfoldable pub fair_magnitude : ℕ → Bool
fair_magnitude x = ltb 0 x && leb x most_eggs

unfoldable pub fair_amount : Payload → Bool
fair_amount p =
    eqb p.kind report_kind && (fair_magnitude p.added && eqb p.withdrawn 0 || eqb p.added 0 && fair_magnitude p.withdrawn)
    || (eqb p.kind sync_kind || eqb p.kind write_kind) && (eqb p.added 0 && eqb p.withdrawn 0)

-- A report of version 2 has a class from 1 to 4; every other message has class 0.
unfoldable pub fair_class : ℕ → Payload → Bool
fair_class v p = cond (eqb v 2 && eqb p.kind report_kind) (ltb 0 p.class && leb p.class last_class) (eqb p.class 0)

-- A write has a register from 1 to 8; every other message has none, and no value.
unfoldable pub fair_register : Payload → Bool
fair_register p =
    cond (eqb p.kind write_kind) (ltb 0 p.reg && leb p.reg register_count) (eqb p.reg 0 && eqb p.value 0)

-- A write has a date from 1 to the count of messages, k; every other message has none.
unfoldable pub fair_date : ℕ → Message → Bool
fair_date k m = cond (eqb m.payload.kind write_kind) (ltb 0 m.date && leb m.date k) (eqb m.date 0)

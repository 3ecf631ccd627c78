-- What stands at the head of a list: legal steps from a fresh table to the one that the next call gets. Assumes nothing.
use Rattle.model.specs.Tables.{fresh}
use Rattle.model.specs.Calls.{fresh_table}
use Rattle.model.specs.Questions.{FreshAllowed}
use Rattle.model.proofs.Allowed.{fresh_allowed, file_allowed}
use Rattle.consistency.specs.Demand3.{Head, request, file, Heads, version, controllers, opening, given}
use Rattle.consistency.specs.Courses.{Course, told, Gives}
use Rattle.consistency.proofs.FileRuns.{file_course}

pub record Opened (h : Head) : Type 0 where
  pub allowed : FreshAllowed (version h) (controllers h)
  pub course : Course told Gives (fresh (version h) (controllers h)) (opening h) (given h)

pub opened : (h : Head) → Heads h → Opened h
unfolding Heads version controllers opening given Course fresh_table
opened (request v n) e = record { allowed = fresh_allowed v n e; course = rw e }
opened (file s listing scratch) e = record { allowed = (file_allowed s e).fresh; course = file_course s listing scratch e }

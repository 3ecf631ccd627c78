-- A controller of the table, as the functions of the questions hand it on.
use Rattle.std.specs.Prelude.{Option, Some, None}
use Rattle.std.specs.Borrow.{Bor}
use Rattle.model.specs.Tables.{no_controller}
use Rattle.model.specs.declared.Controller.{Controller}

-- a controller, if there is one: zeros are read where there is none
unfoldable pub or_none : Option (Bor Controller) → Controller
or_none None = no_controller
or_none (Some x) = x.now

pub mod SumsSoFar
pub mod RegistersSoFar
pub mod ControllerPanel
pub mod FinishedSync

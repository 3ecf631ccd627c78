pub mod Cases
pub mod Dispatching
pub mod DispatchLaws

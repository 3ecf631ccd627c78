pub mod Entries
pub mod Ledger
pub mod Lines
pub mod Dispatches
pub mod Demand3
pub mod Courses

pub mod Greater
pub mod Room
pub mod Seats
pub mod SetApplied
pub mod WriteDates
pub mod StoredEffect
pub mod HandoverEffect

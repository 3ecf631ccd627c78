pub mod Conditions
pub mod Parties
pub mod Effects

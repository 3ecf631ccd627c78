pub mod Layout
pub mod Ranks
pub mod Faults
pub mod Files

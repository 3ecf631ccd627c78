pub mod Times
pub mod Named
pub mod Division
pub mod LargestByRemoval
pub mod ApplyAnswer

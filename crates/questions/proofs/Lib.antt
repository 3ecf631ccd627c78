pub mod Answers
pub mod Controllers
pub mod Messages

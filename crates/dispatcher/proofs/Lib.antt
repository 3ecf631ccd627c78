pub mod Search
pub mod DispatchAnswers

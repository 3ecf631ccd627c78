pub mod LookAnswers

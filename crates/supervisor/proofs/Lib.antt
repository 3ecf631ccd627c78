pub mod ActCounts
pub mod Pairs
pub mod SupervisedAnswers

pub mod QuestionOrder
pub mod CallOutcome
pub mod UnreadRest

pub mod FileQuestions
pub mod OneRecord
pub mod RecordLoop

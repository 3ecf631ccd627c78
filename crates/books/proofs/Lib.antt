pub mod Codes
pub mod FirstParts
pub mod Laid
pub mod Chains
pub mod Placed
pub mod Ranks
pub mod FileQuestions

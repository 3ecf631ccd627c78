pub mod Cases
pub mod AcceptedCalls
pub mod PreviewLaws

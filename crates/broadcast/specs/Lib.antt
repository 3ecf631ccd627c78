pub mod State
pub mod Delivery
pub mod Events

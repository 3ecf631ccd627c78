pub mod Dispatcher
pub mod Claims

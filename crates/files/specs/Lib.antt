pub mod FileRun
pub mod Turns

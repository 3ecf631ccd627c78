pub mod Steps
pub mod Walk
pub mod Parameters
pub mod Handing
pub mod StoredAnswer
pub mod StoredTable

pub mod Owned
pub mod NameOrder
pub mod Inserting
pub mod NamesSoFar
pub mod PendingOfName

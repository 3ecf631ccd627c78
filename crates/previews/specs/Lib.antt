pub mod Previews
pub mod Claims

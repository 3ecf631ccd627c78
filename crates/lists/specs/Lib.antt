pub mod Below
pub mod Build
pub mod Every

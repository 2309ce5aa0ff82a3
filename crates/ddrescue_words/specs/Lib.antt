pub mod Options
pub mod Command
pub mod Asking
pub mod Laws

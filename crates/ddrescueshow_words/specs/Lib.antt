pub mod Options
pub mod Command
pub mod Laws
pub mod Progress

pub mod Turns
pub mod Copying
pub mod Laws
pub mod Past
pub mod PhaseLaws
pub mod Passing

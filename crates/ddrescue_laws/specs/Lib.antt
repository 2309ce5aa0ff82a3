pub mod InputRead
pub mod LeftAfter
pub mod Laws
pub mod ModeLaws

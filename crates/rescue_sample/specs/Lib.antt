pub mod Sample
pub mod SourceState
pub mod StillState
pub mod Blank
pub mod Line
pub mod Laws

pub mod MapNames
pub mod Saving
pub mod SaveStops
pub mod Loading

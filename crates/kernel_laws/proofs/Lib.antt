mod Nodes
mod Names
pub mod Stops
mod Begins
mod Drafts
mod Publishes
mod Removes
mod Settles
mod Refined
mod Denied
mod Saved
mod Covers
mod Spares
mod Images
mod ImageCalls
mod Opens
mod Loses
mod Asked
pub mod Deeds
mod StepsIn
pub mod Stands
pub mod AnyStop
mod Calm
pub mod Drops
mod MapCalm
pub mod MapKeeps
pub mod ImageKeeps
mod DraftFiles
pub mod DraftHolds
pub mod DraftKeeps

pub mod Drafts
pub mod Settles
pub mod Pieces
pub mod Told
pub mod Left

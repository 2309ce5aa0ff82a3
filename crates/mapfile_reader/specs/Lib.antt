pub mod Checking
pub mod Cursor
pub mod Reading
pub mod Laws

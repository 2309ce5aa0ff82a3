pub mod HeadingLines
pub mod Printed
pub mod Pieces
pub mod Lines
pub mod Fields
pub mod MapText
pub mod Laws
pub mod LeftOf

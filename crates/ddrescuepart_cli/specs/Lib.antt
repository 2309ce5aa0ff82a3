pub mod Names
pub mod Answers
pub mod Work
pub mod Ddrescuepart
pub mod Laws

pub mod Names
pub mod Answers
pub mod Work
pub mod Ddrescueplan
pub mod Laws

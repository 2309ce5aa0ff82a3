pub mod Due
pub mod Warnings

pub mod Volume
pub mod Stops
pub mod Answers
pub mod Steps
pub mod MapCalls
pub mod ImageCalls
pub mod Log

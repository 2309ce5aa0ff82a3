pub mod ClockState
pub mod ConsoleState
pub mod FeedState
pub mod Speaking

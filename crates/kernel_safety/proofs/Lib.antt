mod Stops
mod Fresh

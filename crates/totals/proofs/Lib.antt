pub mod Added
pub mod Onward
pub mod Placed
pub mod Walked

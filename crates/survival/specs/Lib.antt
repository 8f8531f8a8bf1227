pub mod Chances
pub mod Promise

pub mod ClassFront
pub mod Good
pub mod ListRoom
pub mod Reached
pub mod StudyHeld
pub mod TableFilled

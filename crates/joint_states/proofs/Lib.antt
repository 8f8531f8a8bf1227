pub mod NumberLeft
pub mod Numbered
pub mod Steps

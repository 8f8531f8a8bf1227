pub mod Images
pub mod Saving

pub mod Handed
pub mod Whole

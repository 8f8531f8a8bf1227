pub mod Meaning
pub mod Sources

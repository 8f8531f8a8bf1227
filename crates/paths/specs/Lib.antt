pub mod Blocks
pub mod Paths
pub mod Theorems
pub mod Ways
pub mod Words

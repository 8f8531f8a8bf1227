pub mod Firsts
pub mod Judged
pub mod Kept
pub mod Rows
pub mod Weights

pub mod Judged
pub mod Pairs

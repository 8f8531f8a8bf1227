pub mod Entries
pub mod Lent
pub mod Ways

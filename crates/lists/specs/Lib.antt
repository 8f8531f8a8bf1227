pub mod Bits
pub mod Cleared
pub mod Counting
pub mod OneOf
pub mod Product
pub mod Rows
pub mod Run
pub mod Tabulate

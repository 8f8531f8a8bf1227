pub mod ClassBehind
pub mod ClassBytes
pub mod ClassReading
pub mod Entries

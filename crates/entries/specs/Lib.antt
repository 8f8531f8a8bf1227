pub mod ClassReader
pub mod Entries
pub mod Lists

pub mod Answers
pub mod FirstBreach
pub mod Longest
pub mod Opened
pub mod Places
pub mod Sorting
pub mod Taken

pub mod Answered
pub mod Answers
pub mod Told

pub mod Answered
pub mod ByNumber
pub mod Told

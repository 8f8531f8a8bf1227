pub mod Checked
pub mod Front
pub mod Judged
pub mod Places
pub mod Ranges
pub mod Unused

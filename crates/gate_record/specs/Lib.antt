pub mod Gate
pub mod Places

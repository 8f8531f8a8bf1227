pub mod Laws
pub mod Longest
pub mod Opening
pub mod Places

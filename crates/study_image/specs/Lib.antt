pub mod Fits
pub mod Image
pub mod Places

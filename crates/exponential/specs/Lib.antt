pub mod Laws
pub mod Series
pub mod Survives
pub mod Worked

pub mod Back
pub mod Costs
pub mod Places
pub mod Record

pub mod Distinct
pub mod Inputs
pub mod Laws
pub mod Sorting
pub mod Thinning

pub mod Bounded
pub mod Exact
pub mod Factors
pub mod TotalTerms
pub mod Most
pub mod OneClass

pub mod Exact
pub mod Factors
pub mod Marks
pub mod PathBounds
pub mod Sums
pub mod Totals

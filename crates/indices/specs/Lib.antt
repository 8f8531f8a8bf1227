pub mod Enclosed
pub mod Figures
pub mod Losses
pub mod Parts
pub mod Sums

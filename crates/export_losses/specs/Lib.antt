pub mod Figures
pub mod Losses

pub mod Checked
pub mod Distinct
pub mod Fronts
pub mod InOrder
pub mod Kept
pub mod Rows
pub mod Summed

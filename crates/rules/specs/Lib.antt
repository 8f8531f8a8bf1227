pub mod Breach
pub mod Limits
pub mod Refusals
pub mod Table

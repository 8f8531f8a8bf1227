pub mod Quotients
pub mod Rounding
pub mod Within

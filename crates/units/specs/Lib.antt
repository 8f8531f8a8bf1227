pub mod Laws
pub mod One
pub mod Rounding
pub mod Within

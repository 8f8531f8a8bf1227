pub mod Bounded
pub mod Bounds
pub mod ClassTotal
pub mod Exact
pub mod Probabilities
pub mod Totals

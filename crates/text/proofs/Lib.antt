pub mod Decimals
pub mod Pieces
pub mod Short
pub mod Written

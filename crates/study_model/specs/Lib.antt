pub mod Holding
pub mod InHand
pub mod Model
pub mod Totals

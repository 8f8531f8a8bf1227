pub mod Good
pub mod InHand
pub mod Laws
pub mod Listed
pub mod Model

pub mod Classes
pub mod InHand
pub mod Listing
pub mod Paths
pub mod Table

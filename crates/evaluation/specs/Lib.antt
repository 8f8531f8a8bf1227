pub mod Bounds
pub mod Figures
pub mod Losses
pub mod Rooms

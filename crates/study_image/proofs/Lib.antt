pub mod ImageBack
pub mod Reading
pub mod Standing
pub mod Widths
pub mod Writing

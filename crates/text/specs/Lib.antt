pub mod Letters
pub mod Lines
pub mod Numbers
pub mod Writer
pub mod Writing

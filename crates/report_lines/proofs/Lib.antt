pub mod Below
pub mod Borne
pub mod Counts
pub mod Listed
pub mod ListedClasses
pub mod Marked
pub mod Widths

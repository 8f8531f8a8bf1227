pub mod Classes
pub mod Figures
pub mod ListedClasses
pub mod Listing
pub mod Loads
pub mod Paths

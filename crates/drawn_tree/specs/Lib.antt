pub mod Drawn
pub mod Filling
pub mod Laws
pub mod Leaves
pub mod Reading
pub mod Tree
pub mod WellDrawn

pub mod Check
pub mod Sound

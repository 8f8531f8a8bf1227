pub mod Classes
pub mod Readable
pub mod Told
pub mod Truth

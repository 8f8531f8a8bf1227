pub mod Fields
pub mod Reader

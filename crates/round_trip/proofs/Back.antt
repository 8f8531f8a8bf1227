-- What is written is read back, record by record.
pub mod Component
pub mod Gate
pub mod Load
pub mod Study

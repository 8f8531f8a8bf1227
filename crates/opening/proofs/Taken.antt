-- How many bytes opening a study takes, record by record.
pub mod Component
pub mod Components
pub mod Gate
pub mod Load
pub mod Study

-- What opening a study keeps, record by record.
pub mod Component
pub mod Gate
pub mod Load
pub mod Order
pub mod Study

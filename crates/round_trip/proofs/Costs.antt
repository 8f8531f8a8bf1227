-- What a record, or a study, costs to read: no fewer bytes than those written for it.
pub mod Component
pub mod Field
pub mod Gate
pub mod Load
pub mod Study

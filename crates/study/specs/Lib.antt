pub mod Absent
pub mod Edits
pub mod Joint
pub mod Places
pub mod Zero

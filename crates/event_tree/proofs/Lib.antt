pub mod Behind
pub mod Compared
pub mod Counted
pub mod Forked
pub mod Listed

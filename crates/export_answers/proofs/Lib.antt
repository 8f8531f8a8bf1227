pub mod Answering
pub mod Signed

pub mod ClassBits
pub mod GatesTold
pub mod GateTruths
pub mod OnesCounted
pub mod SoundReadable
pub mod Tables

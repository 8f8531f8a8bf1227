pub mod Chances

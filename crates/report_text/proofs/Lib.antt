pub mod Fits
pub mod Longest
pub mod Opened
pub mod Printed
pub mod Reported
pub mod Tables

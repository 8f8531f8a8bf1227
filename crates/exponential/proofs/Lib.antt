pub mod Along
pub mod Binomial
pub mod Certificates
pub mod Enclosed
pub mod Enclosing
pub mod Products
pub mod Table
pub mod Worked

pub mod Products
pub mod Triples
pub mod Charges

pub mod Products
pub mod Matrices
pub mod Transposed

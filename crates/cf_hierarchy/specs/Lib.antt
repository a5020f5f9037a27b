pub mod Circuits
pub mod Hierarchy
pub mod Spreads
pub mod Flattening
pub mod Links

pub mod Flats
pub mod Flattening
pub mod Gates
pub mod Kinds
pub mod Named

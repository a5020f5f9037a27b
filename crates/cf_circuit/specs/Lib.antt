pub mod Truths
pub mod Planes
pub mod Covers
pub mod Needs
pub mod Functions

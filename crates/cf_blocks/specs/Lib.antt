pub mod Numbering
pub mod Once

pub mod Keys
pub mod Numbering
pub mod Assembling
pub mod Joining
pub mod Parts

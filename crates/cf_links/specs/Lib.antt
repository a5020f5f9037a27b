pub mod Directories
pub mod Faults
pub mod Kinds
pub mod Signals

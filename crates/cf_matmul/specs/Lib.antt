pub mod Symbolic
pub mod Memos
pub mod Values
pub mod Weighings

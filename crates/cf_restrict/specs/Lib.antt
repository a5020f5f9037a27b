pub mod Restrictions
pub mod Memos
pub mod Quantified

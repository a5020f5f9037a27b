pub mod Words
pub mod Details

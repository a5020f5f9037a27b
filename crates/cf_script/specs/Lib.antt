pub mod Vars
pub mod Views
pub mod Arguments
pub mod Readings
pub mod Answers

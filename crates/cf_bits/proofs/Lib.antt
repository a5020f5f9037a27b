pub mod AssignmentLaws
pub mod Digits

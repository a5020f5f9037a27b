pub mod WordLaws
pub mod ReplyExamples

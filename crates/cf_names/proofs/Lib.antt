pub mod NumberLaws
pub mod NameExamples

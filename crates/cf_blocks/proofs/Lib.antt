pub mod BookLaws
pub mod CallLaws
pub mod FaultLaws
pub mod NumberingExamples

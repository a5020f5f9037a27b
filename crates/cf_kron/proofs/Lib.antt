pub mod Words
pub mod ProductLaws
pub mod NamedLaws
pub mod NamedMade
pub mod MemoFacts
pub mod TransposeLaws
pub mod TransposedValues

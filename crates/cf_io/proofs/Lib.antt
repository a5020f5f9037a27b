pub mod CountLaws
pub mod FileLemmas
pub mod ToComeLaws
pub mod WindowLemmas
pub mod HandLemmas
pub mod FindLemmas

pub mod Groupings
pub mod Triples
pub mod Kept
pub mod Goodness

pub mod Following
pub mod Turns
pub mod Carried
pub mod Refused
pub mod SeedFacts
pub mod FormFacts

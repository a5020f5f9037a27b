pub mod Orders
pub mod Rings
pub mod Walks
pub mod Sound
pub mod Chains

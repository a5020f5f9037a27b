pub mod Walking
pub mod Work
pub mod Turns
pub mod RingLaws
pub mod Reaching
pub mod ChainLaws

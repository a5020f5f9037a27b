pub mod Nexts
pub mod Witnesses
pub mod Separating

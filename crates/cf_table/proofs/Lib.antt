pub mod Told
pub mod Shown
pub mod Differ
pub mod Numbered
pub mod ConnectionTests
pub mod Above
pub mod Internable
pub mod Interned
pub mod First
pub mod Entries
pub mod Products
pub mod Triples
pub mod Reductions
mod Placed

pub mod Marks
pub mod Halves
pub mod Tables
pub mod Lists
pub mod Listed
pub mod Values
pub mod Agreement
pub mod Examples

pub mod Asked
pub mod Views
pub mod Ends
pub mod Carrying

pub mod BookLaws
pub mod Entered
mod Noted
mod Small

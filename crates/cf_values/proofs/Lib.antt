pub mod BookLaws
mod Noted

pub mod Meanings
pub mod Rows
pub mod Steps

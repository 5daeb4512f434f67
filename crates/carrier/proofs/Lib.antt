pub mod Kept
pub mod Puts
pub mod Steps

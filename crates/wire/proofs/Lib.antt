pub mod Chunks
pub mod Codes
pub mod Fronts
pub mod Readings

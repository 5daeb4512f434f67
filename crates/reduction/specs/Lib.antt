pub mod Good
pub mod Parts

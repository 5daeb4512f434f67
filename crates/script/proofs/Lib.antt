mod Cuts
pub mod Follows
mod Pairs

pub mod Layers
pub mod Leads
pub mod Rules
pub mod Wakes

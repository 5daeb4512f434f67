pub mod Calls
pub mod Kept
pub mod Laws
pub mod Meaning
pub mod Rules

pub mod Laws
pub mod Meaning
pub mod Places
pub mod Rules

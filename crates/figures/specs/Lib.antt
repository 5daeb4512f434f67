pub mod Apart
pub mod Figures

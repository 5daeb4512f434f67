pub mod Expected
pub mod Lines
pub mod Plans

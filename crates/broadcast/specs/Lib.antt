pub mod Cells
pub mod Letters
pub mod Meanings
pub mod Moves
pub mod Rows
pub mod Rules
pub mod Stills

pub mod Histories
pub mod Laws
pub mod Views
pub mod Words

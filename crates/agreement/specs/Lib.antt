pub mod Laws
pub mod Views

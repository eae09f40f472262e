pub mod Laws
pub mod Keywords

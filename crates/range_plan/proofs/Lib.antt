pub mod Laws
pub mod Widths

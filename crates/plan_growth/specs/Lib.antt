pub mod Inner
pub mod Hanging
pub mod Holding

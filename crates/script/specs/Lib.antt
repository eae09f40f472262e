pub mod Script
pub mod Inner

pub mod Twin
pub mod Script

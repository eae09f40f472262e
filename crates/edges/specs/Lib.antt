pub mod Reading
pub mod Rows
pub mod Inner
pub mod Columns

pub mod Levels
pub mod Statement
pub mod Inner
pub mod Examples

pub mod Cycle
pub mod Statement
pub mod Inner
pub mod Examples

pub mod Cycles
pub mod Statement
pub mod Inner

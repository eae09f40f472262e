pub mod Alone
pub mod Statement
pub mod Inner

pub mod Rounding
pub mod Statement

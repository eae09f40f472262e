pub mod Statement
pub mod Restored

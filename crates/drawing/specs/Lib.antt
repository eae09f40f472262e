pub mod Drawing
pub mod Statement
pub mod Tie

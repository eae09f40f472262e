pub mod Pair
pub mod Statement
pub mod Tie

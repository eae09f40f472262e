pub mod Descent
pub mod Ending
pub mod Trees

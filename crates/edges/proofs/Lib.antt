pub mod Rows
pub mod Counting
pub mod OneEdge
pub mod Further
pub mod Faults

pub mod Plan
pub mod Positions
pub mod Reading
pub mod Bytes
pub mod Valid
pub mod Tie

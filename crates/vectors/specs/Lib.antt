pub mod Sums
pub mod Lengths
pub mod Choices
pub mod Orders
pub mod Parties

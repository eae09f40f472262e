pub mod Tree
pub mod Answers

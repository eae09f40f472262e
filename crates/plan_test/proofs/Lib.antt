pub mod Noted
pub mod Answers

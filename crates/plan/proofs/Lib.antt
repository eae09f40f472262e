pub mod Degrees
pub mod Listed
pub mod Answers
pub mod TreePlan

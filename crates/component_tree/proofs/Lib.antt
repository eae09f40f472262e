pub mod Passes
pub mod TreeLaws

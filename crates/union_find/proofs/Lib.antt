pub mod Roots
pub mod Sets

pub mod Sets
pub mod Entries

pub mod Sets
pub mod Undoing
pub mod Columns
pub mod Joining
pub mod Starting
pub mod Marking

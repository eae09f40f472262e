pub mod Calls
pub mod Redone

pub mod Typed
pub mod Entries
pub mod Charts
pub mod Openings
pub mod Steps

pub mod Entries
pub mod Places
pub mod Charted
pub mod Steps

pub mod Replaying
pub mod Restores
pub mod Scans

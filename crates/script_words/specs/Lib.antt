pub mod Words
pub mod Scan

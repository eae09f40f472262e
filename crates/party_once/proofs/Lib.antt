pub mod Spent
pub mod Made
pub mod Once
pub mod Examples

pub mod Calls
pub mod Reported
pub mod Laws
pub mod Examples

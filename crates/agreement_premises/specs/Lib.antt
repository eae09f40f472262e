pub mod Edits
pub mod Examples
pub mod Claims
pub mod Machines

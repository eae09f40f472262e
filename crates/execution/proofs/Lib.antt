pub mod Lawful
pub mod Executions
pub mod Logs
pub mod Uncut
pub mod Histories

pub mod Numbers
pub mod Examples

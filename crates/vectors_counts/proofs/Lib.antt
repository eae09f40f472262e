pub mod Each
pub mod Numbers
pub mod Table

pub mod Machine
pub mod History
pub mod Inner

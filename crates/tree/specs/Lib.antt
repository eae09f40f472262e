pub mod Walk
pub mod Edges
pub mod Component
pub mod Growth
pub mod Path
pub mod Inner

pub mod Component
pub mod Inner

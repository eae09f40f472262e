pub mod Going
pub mod Emitted
pub mod Parts
pub mod Turns

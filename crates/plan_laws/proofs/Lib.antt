pub mod Fitting
pub mod Parts
pub mod Shape
pub mod Padding
pub mod Given
pub mod Readings
pub mod Drawn
pub mod Theorem

pub mod Magnitudes
pub mod Signs
pub mod Offsets

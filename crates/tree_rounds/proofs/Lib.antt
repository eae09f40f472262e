pub mod Blocks
pub mod BlockSizes
pub mod BlockCentres
pub mod Split

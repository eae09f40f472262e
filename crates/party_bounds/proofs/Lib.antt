pub mod Sums
pub mod Measures
pub mod Sized
pub mod Steps
pub mod Runs
pub mod Life
pub mod Laws

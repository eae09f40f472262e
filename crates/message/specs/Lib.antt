pub mod Message
pub mod Writing
pub mod Format
pub mod Results
pub mod Reading
pub mod Refusals
pub mod Statement

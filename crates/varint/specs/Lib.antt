pub mod Varint
pub mod Table
pub mod Writing
pub mod Results
pub mod Reading
pub mod Statement

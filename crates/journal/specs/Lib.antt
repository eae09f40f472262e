pub mod Journal
pub mod Records
pub mod Format
pub mod Results
pub mod Reading
pub mod Statement

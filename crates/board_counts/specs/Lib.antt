pub mod Inner
pub mod Results
pub mod Statement

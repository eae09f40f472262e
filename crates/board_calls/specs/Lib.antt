pub mod Answers
pub mod Calls
pub mod Counts
pub mod Restore
pub mod Results
pub mod Tie

pub mod Party
pub mod Run
pub mod Valid
pub mod Inner
pub mod Tie
pub mod Typed

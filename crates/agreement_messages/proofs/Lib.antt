pub mod Bodies
pub mod Echoes
pub mod Messages
pub mod Once
pub mod Restored
pub mod Theorem
pub mod Tied

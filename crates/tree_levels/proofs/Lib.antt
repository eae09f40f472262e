pub mod TakeOut
pub mod RoundLaws
pub mod LevelLaws

pub mod Tests
pub mod Digits
pub mod Sounds
pub mod First
pub mod Second
pub mod FirstLive
pub mod SecondLive
pub mod Laws

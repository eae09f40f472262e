pub mod Laws
pub mod RoundTrip
pub mod Torn
pub mod Records
pub mod Theorem

pub mod Laws
pub mod RoundTrip
pub mod Broken
pub mod Theorem

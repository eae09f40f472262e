pub mod Laws
pub mod RoundTrip
pub mod Lengths
pub mod Further
pub mod Bytes
pub mod Theorem

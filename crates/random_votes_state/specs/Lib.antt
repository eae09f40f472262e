pub mod Pool
pub mod Seats

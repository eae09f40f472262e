pub mod Rows
pub mod LabelPass
pub mod NearPass

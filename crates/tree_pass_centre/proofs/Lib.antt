pub mod SizePass
pub mod LightPass

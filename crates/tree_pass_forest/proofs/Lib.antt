pub mod ForestPass

pub mod Device
pub mod Names
pub mod Parts
pub mod Loads

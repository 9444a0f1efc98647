pub mod Any
pub mod Checked
pub mod Parts

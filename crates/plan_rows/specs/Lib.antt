pub mod Rows
pub mod Fits
pub mod Made
pub mod Keyed
pub mod Files
pub mod Entries
pub mod Misfits

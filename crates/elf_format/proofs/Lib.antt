pub mod Entries
pub mod Fixed
pub mod Found
pub mod Named

mod Bools
pub mod Least
pub mod Decided
pub mod Orders
pub mod Written
pub mod Sorted
pub mod Led
pub mod Grown
pub mod Plain
mod Aligned
pub mod Known
mod InRomfs
mod InCramfs
mod PlannedRomfs
mod PlannedCramfs
pub mod Fitting
pub mod Sourced
pub mod Sectioned
mod Examples
mod Stands
pub mod Placing
mod Places
pub mod Indexed
pub mod Sized
pub mod SourceSizes

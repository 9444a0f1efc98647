pub mod Behind
pub mod Entering
pub mod Excepted
pub mod Fit
pub mod Followed
pub mod Lawful
pub mod Lined
pub mod Meaning
pub mod Paths
pub mod Plain
pub mod ReadBack
pub mod Sourced
pub mod Taken
pub mod Upwards
pub mod Ways
mod Made
mod Wanted
mod Indexed
mod Known
mod Apart
mod Extractable
